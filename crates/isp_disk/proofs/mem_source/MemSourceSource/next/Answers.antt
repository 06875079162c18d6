use Rattle.std.proofs.Common.{◌≡◌, ◌++◌, ◌-◌, ◌∙◌, ap, min, List, ℕ, length, take, drop}
use Rattle.std.proofs.lemmas.List.{take_rest}
use Rattle.isp_disk.specs.InMemory.{SourceState}
use Rattle.isp_disk.proofs.Pieces.{reads_front}
use Rattle.isp_disk.proofs.mem_source.MemSourceSource.next.Goals as goal

pub returns-clause-read : goal.returns-clause-read
returns-clause-read c =
    let source = c.self.inside in
    let piece = c.args.into.now in
    let left : drop source.given source.bytes.items ≡ c.args.self.now.left = ap (λ (s : SourceState). s.left) c.self.view_is in
    let part : take (length c.deref-2.result.now - source.given) (drop source.given c.deref-2.result.now) ≡ c.args.self.now.left =
    take_rest c.deref-2.result.now source.given ∙ ap (λ (bytes : List ℕ). drop source.given bytes) c.deref-2.ensures.value ∙ left in
    let count = c.put_front-n.ensures.count ∙ ap (λ (bytes : List ℕ). min (length piece) (length bytes)) part in
    let out = c.put_front-n.ensures.piece ∙ ap (λ (bytes : List ℕ). take (length piece) bytes ++ drop (length bytes) piece) part in
    record { given = reads_front source.given source.bytes.items c.args.self.now.left piece c.put_front-n.new.into c.put_front-n.result c.requires left count out; kept = tt }
