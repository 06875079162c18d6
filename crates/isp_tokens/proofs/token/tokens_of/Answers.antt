use Rattle.std.proofs.Common.{◌≡◌, ◌∙◌, ap, sym, subst, drop, [], List, ℕ, Option, IfOk, arith}
use Rattle.std.proofs.lemmas.List.{drop_all}
use Rattle.isp_tokens.specs.Scanning.{onto, scan, tokens_of, ended}
use Rattle.isp_tokens.specs.declared.token.Token.{Token}
use Rattle.isp_tokens.proofs.token.tokens_of.Goals as goal

pub returns : goal.returns
unfolding tokens_of
returns c =
    let none : drop c.loop-b.b-index c.args.text.now ≡ [] = drop_all c.loop-b.b-index c.args.text.now (omega arith) in
    let all : onto c.loop-b.tokens (ended c.loop-b.begun) ≡ tokens_of c.args.text.now =
    ap (λ (bytes : List ℕ). onto c.loop-b.tokens (scan c.loop-b.begun bytes)) (sym none) ∙ c.loop-b.invariant in
    subst (λ (x : Option (List Token)). IfOk c.with_ended.result (λ tokens. tokens ≡ x)) all c.with_ended.ensures
