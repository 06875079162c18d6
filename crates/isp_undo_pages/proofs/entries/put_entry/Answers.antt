use Rattle.std.proofs.Common.{◌≡◌, ℕ, ℤ, ◌+◌, List, length, sym, ◌∙◌, ap}
use Rattle.std.specs.Int.{cast_signed, cast_unsigned, w64}
use Rattle.isp_disk.specs.Moments.{Image, image_of, put}
use Rattle.isp_format.specs.Leaf.{key_bytes}
use Rattle.isp_format.specs.Numbers.{bytes_of}
use Rattle.isp_format.specs.Undo.{OldImage}
use Rattle.isp_undo_pages.specs.Entries.{image_in}
use Rattle.isp_undo_pages.proofs.EntryLaws.{key_back, spelled_all}
use Rattle.isp_undo_pages.proofs.entries.put_entry.Goals as goal

pub returns-clause-bytes : goal.returns-clause-bytes
returns-clause-bytes c =
    let old : Image = image_of c.args.p.now.bytes in
    let table : Image = image_of c.put_u32.new.p.bytes in
    let key : Image = image_of c.put_key.new.p.bytes in
    let kind : Image = image_of c.put_bytes.new.p.bytes in
    let len : Image = image_of c.put_u16.new.p.bytes in
    let row : Image = image_of c.put_bytes-2.new.p.bytes in
    let whole : Image = image_of c.put_u16-2.new.p.bytes in
    let image : OldImage = image_in c.args.old.now in
    let put_key : key ≡ put table (c.args.at + 4) (key_bytes image.key) = c.put_key.ensures.put ∙ ap (λ (k : ℤ). put table (c.args.at + 4) (key_bytes k)) (ap (λ (k : ℤ). cast_signed w64 (cast_unsigned w64 k)) c.key_of.ensures.key ∙ key_back image.key c.key_of.ensures.fits) in
    let row_is = c.row_of-row.ensures.row in
    let long : length image.row ≡ c.args.old.now.len = sym (ap (λ (bytes : List ℕ). length bytes) row_is) ∙ c.row_of-row.ensures.len in
    let put_len : len ≡ put kind (c.args.at + 13) (bytes_of 2 (length image.row)) = λ i place. (c.put_u16.ensures.put place ∙ ap (λ (n : ℕ). put kind (c.args.at + 13) (bytes_of 2 n) place) (sym long)) i in
    let put_row : row ≡ put len (c.args.at + 15) image.row = λ i place. (c.put_bytes-2.ensures.put place ∙ ap (λ (bytes : List ℕ). put len (c.args.at + 15) bytes place) row_is) i in
    let put_whole : whole ≡ put row (c.args.at + 15 + length image.row) (bytes_of 2 (17 + length image.row)) = λ i place. (c.put_u16-2.ensures.put place ∙ ap (λ (n : ℕ). put row (c.args.at + 15 + n) (bytes_of 2 (17 + c.args.old.now.len)) place) (ap (λ (bytes : List ℕ). length bytes) row_is) ∙ ap (λ (n : ℕ). put row (c.args.at + 15 + length image.row) (bytes_of 2 (17 + n)) place) (sym long)) i in
    spelled_all old table key kind len row whole c.args.at image (λ i place. c.put_u32.ensures.put place i) put_key (λ i place. c.put_bytes.ensures.put place i) put_len put_row put_whole
