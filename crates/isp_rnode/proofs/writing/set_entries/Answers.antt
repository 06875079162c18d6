use Rattle.std.proofs.Common.{◌≡◌, ◌≤◌, ◌∙◌, ap, sym, subst, refl, length}
use Rattle.isp_disk.specs.Moments.{image_of, put}
use Rattle.isp_format.specs.Header.{Header, header_bytes, header_of}
use Rattle.isp_base.specs.Lists.{Has}
use Rattle.isp_forest.specs.Tree.{Node}
use Rattle.isp_format.specs.Kinds.{content_place, rtree_kind}
use Rattle.isp_rnode.specs.Nodes.{IsReadable, entries_bytes, most_entries, node_of, with_count}
use Rattle.isp_rnode.proofs.PutLaws.{IsPut, node_kept, node_put}
use Rattle.isp_rnode.proofs.writing.set_entries.Goals as goal

pub returns-clause-bytes : goal.returns-clause-bytes
returns-clause-bytes c =
    let mid : image_of c.put_entries.new.p.bytes ≡ put (image_of c.args.p.now.bytes) content_place (entries_bytes c.args.entries.now) = λ i place. c.put_entries.ensures.put place i in
    let same = ap (with_count (length c.args.entries.now)) c.head-h.ensures in
    λ place. c.set_head.ensures.bytes place ∙ (λ i. put (mid i) 0 (header_bytes (same i)) place)

-- the node that the bytes mean now
node : (c : goal.After-set_head) → node_of c.set_head.new.p.bytes ≡ record (node_of c.args.p.now.bytes) { entries = c.args.entries.now }
unfolding node_of
node c =
    let same = ap (with_count (length c.args.entries.now)) c.head-h.ensures in
    let header : Header = with_count (length c.args.entries.now) (header_of c.args.p.now.bytes) in
    node_put c.put_entries.new.p.bytes c.set_head.new.p.bytes header c.args.entries.now (subst (λ (h : Header). IsPut c.put_entries.new.p.bytes c.set_head.new.p.bytes 0 (header_bytes h)) same c.set_head.ensures.bytes)
    (c.set_head.ensures.head ∙ same) refl c.put_entries.ensures.stand

pub returns-clause-node : goal.returns-clause-node
returns-clause-node c = node c

-- and that it can be read
readable : (c : goal.After-set_head) → (header_of c.args.p.now.bytes).kind ≡ rtree_kind → IsReadable c.set_head.new.p.bytes
readable c kind =
    let same = c.set_head.ensures.head ∙ ap (with_count (length c.args.entries.now)) c.head-h.ensures in
    record {
      kind = ap (λ (h : Header). h.kind) same ∙ kind;
      count = subst (λ (h : Header). h.count ≤ most_entries) (sym same) c.requires.most;
      boxes = λ e has. c.put_entries.ensures.ordered e (subst (λ (n : Node). Has n.entries e) (node c) has);
    }

pub returns-clause-readable : goal.returns-clause-readable
returns-clause-readable c = readable c

pub returns-clause-kept : goal.returns-clause-kept
returns-clause-kept c = λ owner q was is. node_kept owner q was c.args.p.now.bytes c.set_head.new.p.bytes c.args.entries.now (c.set_head.ensures.head ∙ ap (with_count (length c.args.entries.now)) c.head-h.ensures) (node c) (readable c) is
