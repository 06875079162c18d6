-- Who gives way rather than whom is an order.
use Rattle.std.proofs.Common.{◌∙◌, ◌<◌, ◌+◌, List, ℕ, length, take, get_or, refl, inl, inr, arith, ⊎_elim}
use Rattle.std.specs.List.{All}
use Rattle.std.proofs.lemmas.List.Elements.{All-more}
use Rattle.isp_waits.specs.Victims.{GivesWay}

pub gives_way_trans : (undo : List ℕ) (a b c : ℕ) → GivesWay undo a b → GivesWay undo b c → GivesWay undo a c
gives_way_trans undo a b c h k =
    ⊎_elim (λ less. ⊎_elim (λ less'. inl (omega arith)) (λ tied. inl (omega arith)) k)
    (λ tied. ⊎_elim (λ less. inl (omega arith)) (λ tied'. inr (tied.0 ∙ tied'.0, omega arith)) k) h

-- of one member more the new one gives way
pub best_taken : (undo members : List ℕ) (i best : ℕ) → i < length members → GivesWay undo (get_or members i 0) best → All (GivesWay undo best) (take i members) →
    All (GivesWay undo (get_or members i 0)) (take (i + 1) members)
best_taken undo members i best lt better all =
    All-more (GivesWay undo (get_or members i 0)) members i 0 lt
    (λ k d low. gives_way_trans undo (get_or members i 0) best _ better (all k d low)) (inr (refl, omega arith))
