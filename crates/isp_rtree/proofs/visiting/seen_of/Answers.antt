use Rattle.std.proofs.Common.{refl, sym, ◌∙◌, ap}
use Rattle.isp_format.specs.Header.{Header}
use Rattle.isp_rnode.specs.Nodes.{link_of}
use Rattle.isp_rtree.proofs.TreeLaws.{level_is, next_is, ssn_is}
use Rattle.isp_rtree.proofs.visiting.seen_of.Goals as goal

pub returns : goal.returns
returns c = record {
  level = ap (λ (h : Header). h.level) c.head-h.ensures ∙ sym (level_is c.args.p.now.bytes);
  ssn = ap (λ (h : Header). h.ssn) c.head-h.ensures ∙ sym (ssn_is c.args.p.now.bytes);
  next = ap (λ (h : Header). link_of h.next) c.head-h.ensures ∙ sym (next_is c.args.p.now.bytes);
  counter_is = refl;
  entries = c.in_ok-entries.ensures;
}
