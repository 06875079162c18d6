-- What a change that is taken back leaves of an open file.
use Rattle.std.proofs.Common.{◌≡◌, ℕ, zero, suc, ◌<◌, true, false, List, length, map, reverse, sym, ◌∙◌, ap, subst, arith}
use Rattle.std.specs.Prelude.{nat_lt}
use Rattle.std.proofs.lemmas.Bool.Decides.{nat_tests}
use Rattle.std.proofs.lemmas.List.{length-map, length-reverse}
use Rattle.isp_base.specs.declared.page_no.PageNo.{PageNo}
use Rattle.isp_catalog.specs.declared.table.TableDef.{TableDef}
use Rattle.isp_format.specs.Undo.{OldImage, undo_slots}
use Rattle.isp_image.specs.Databases.{Database, FileImage}
use Rattle.isp_undo.specs.Chains.{Chain, images_of, popped}
use Rattle.isp_chained.specs.Chained.{ChainedFile, alone, old_of}
use Rattle.isp_chained.proofs.CourseLaws.{reaches_more, reaches_self}
use Rattle.isp_page.specs.declared.pages.Pages.{Ghosts}
use Rattle.isp_trx.specs.Roots.{numbers_of}
use Rattle.isp_trx.specs.Transactions.{HasUndone, TrxState}
use Rattle.isp_trx.specs.Writes.{CanUndo, Undid, UndidIf}
use Rattle.isp_trx.specs.declared.keys.RowKey.{RowKey}
use Rattle.isp_trx_laws.specs.Written.{AreWritten}
use Rattle.isp_trx_laws.proofs.MarkLaws.{undo_adds_none}
use Rattle.isp_trx_laws.proofs.StageLaws.{undone_images}
use Rattle.isp_tables.specs.Opened.{IsOpen}
use Rattle.isp_tables.specs.TableLists.{roots_of}
use Rattle.isp_tables.proofs.RootLaws.{are_roots}
use Rattle.isp_tables.proofs.TableLaws.{one_chain}
use Rattle.isp_writes.specs.Writing.{DidUndo}

false_true : {X : Type 0} → true ≡ false → X
false_true is = cc

-- the chain has as many old rows as the file
as_many : (images : List FileImage) (chain : Chain) → map old_of images ≡ reverse (images_of chain) → length images ≡ length (images_of chain)
as_many images chain are = sym (length-map images old_of) ∙ ap (λ (l : List OldImage). length l) are ∙ length-reverse (images_of chain)

pub can_undo : {S : Type 0} (g : Ghosts S) (now : S) (defs : List TableDef) (trx : TrxState) (d : Database) (roots : List PageNo) (opened : IsOpen g now defs trx d) → numbers_of roots ≡ roots_of defs
    → CanUndo (g.shape now).pages (g.contents now) (alone trx.session opened.chain) trx.session opened.chain trx.count (numbers_of roots) d
can_undo g now defs trx d roots opened same =
    let one = one_chain g now defs trx d opened in
    record {
      kept = opened.kept;
      own = one.own;
      disjoint = one.disjoint;
      counts = opened.noted ∙ as_many d.images opened.chain one.images;
      roots_are = are_roots d defs roots opened.defs_are same;
    }

module _ {S : Type 0} (g : Ghosts S) (old new : S) (defs : List TableDef) (trx trx_now : TrxState) (d : Database) (base : ℕ) (opened : IsOpen g old defs trx d) (pages : (g.shape new).pages ≡ (g.shape old).pages)
    (undone : HasUndone trx trx_now) where
  undid : Undid (g.shape old).pages (g.contents new) (alone trx.session opened.chain) trx.session opened.chain d → DidUndo g new defs trx_now d
  undid u =
      let n = (g.shape new).pages in
      let one = one_chain g old defs trx d opened in
      let after = popped opened.chain in
      let chains_are = one.next after ∙ sym (ap (λ (s : ℕ). alone s after) undone.session) in
      let kept_now : ChainedFile n (g.contents new) u.after (alone trx_now.session after) = subst (λ (k : ℕ). ChainedFile k (g.contents new) u.after (alone trx_now.session after)) (sym pages)
      (subst (λ (chains : List Chain). ChainedFile (g.shape old).pages (g.contents new) u.after chains) chains_are u.kept) in
      let images = undone_images (g.shape old).pages (g.contents new) trx.session opened.chain d u in
      let less = undone.count in
      let was = opened.noted in
      let one_less : length d.images ≡ suc (length u.after.images) = ap (λ (l : List FileImage). length l) images in
      record {
        after = u.after;
        opened = record {
          chain = after;
          kept = kept_now;
          slot = subst (λ (s : ℕ). s < undo_slots) (sym undone.session) opened.slot;
          defs_are = u.only.defs ∙ opened.defs_are;
          noted = omega (arith, less, was, one_less);
          written = subst (λ (keys : List RowKey). AreWritten keys u.after) (sym undone.keys) (undo_adds_none (g.shape old).pages (g.contents new) (alone trx.session opened.chain) trx.session opened.chain trx.keys d opened.written u);
        };
        image = u.image;
        noted = images;
        tables = u.now;
        reaches = reaches_more n d d u.after (reaches_self n d) u.step (g.contents new, alone trx_now.session after, kept_now);
      }

  pub did_undo : (count : ℕ) → nat_lt base count ≡ true → UndidIf (g.shape old).pages (g.contents old) (g.contents new) (alone trx.session opened.chain) trx.session opened.chain count d → DidUndo g new defs trx_now d
  did_undo zero some u = let never : nat_lt base 0 ≡ false = grind (arith, nat_tests) in false_true (sym some ∙ never)
  did_undo (suc count) some u = undid u
