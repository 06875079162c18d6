-- Where the lines of bytes are cut, and where the blanks at the end of a line begin.
use Rattle.std.proofs.Common.{◌≡◌, ℕ, zero, suc, ◌<◌, ◌≤◌, ◌+◌, Bool, true, false, ◌&&◌, ◌==◌, cond, nat_lt, List, [], ◌∷◌, ◌++◌, length, take, drop, refl, append_assoc, ap, ◌∙◌, arith, Option, Some, None, if◌then◌else◌, ◌⊎◌, inl, inr}
use Rattle.std.specs.List.{onto_first, position, position_or_len}
use Rattle.std.proofs.lemmas.Bool.Decides.{nat_tests}
use Rattle.isp_script.specs.Laws.{HasNoFeed, spelled, if_any, LinesSpelled}
use Rattle.isp_script.specs.Lines.{lines_of, is_blank, trimmed_length}

abbrev feed_at : List ℕ → ℕ
feed_at bytes = position_or_len (λ b. b == 10) bytes

decided : (b : Bool) → (b ≡ true) ⊎ (b ≡ false)
decided true = inl refl
decided false = inr refl

cut_step : (b : ℕ) (bytes : List ℕ) (end : ℕ) → ((b == 10) ≡ true) ⊎ ((b == 10) ≡ false) → feed_at (b ∷ bytes) ≡ end → end < length (b ∷ bytes) →
    ((k : ℕ) → feed_at bytes ≡ k → k < length bytes → lines_of bytes ≡ take k bytes ∷ lines_of (drop (suc k) bytes)) →
    lines_of (b ∷ bytes) ≡ take end (b ∷ bytes) ∷ lines_of (drop (suc end) (b ∷ bytes))
cut_step b bytes zero (inl feed) is within later = rw feed refl
cut_step b bytes (suc end) (inl feed) is within later =
    let none : feed_at (b ∷ bytes) ≡ 0 = rw feed refl in absurd (omega arith)
cut_step b bytes zero (inr other) is within later =
    let more : feed_at (b ∷ bytes) ≡ 1 + feed_at bytes = rw other refl in absurd (omega arith)
cut_step b bytes (suc end) (inr other) is within later =
    let more : feed_at (b ∷ bytes) ≡ 1 + feed_at bytes = rw other refl in
    let here : lines_of (b ∷ bytes) ≡ onto_first b (lines_of bytes) = rw other refl in
    here ∙ ap (onto_first b) (later end (omega arith) (omega arith))

cut : (bytes : List ℕ) (end : ℕ) → feed_at bytes ≡ end → end < length bytes → lines_of bytes ≡ take end bytes ∷ lines_of (drop (suc end) bytes)
cut [] end is within = absurd (omega arith)
cut (b ∷ bytes) end is within = cut_step b bytes end (decided (b == 10)) is within (cut bytes)

whole_step : (b : ℕ) (bytes : List ℕ) → ((b == 10) ≡ true) ⊎ ((b == 10) ≡ false) → length (b ∷ bytes) ≤ feed_at (b ∷ bytes) →
    (length bytes ≤ feed_at bytes → onto_first b (lines_of bytes) ≡ (b ∷ bytes) ∷ []) → lines_of (b ∷ bytes) ≡ (b ∷ bytes) ∷ []
whole_step b bytes (inl feed) long later =
    let none : feed_at (b ∷ bytes) ≡ 0 = rw feed refl in absurd (omega arith)
whole_step b bytes (inr other) long later =
    let more : feed_at (b ∷ bytes) ≡ 1 + feed_at bytes = rw other refl in
    let here : lines_of (b ∷ bytes) ≡ onto_first b (lines_of bytes) = rw other refl in
    here ∙ later (omega arith)

-- bytes with no line feed are one line
whole : (b : ℕ) (bytes : List ℕ) → length (b ∷ bytes) ≤ feed_at (b ∷ bytes) → lines_of (b ∷ bytes) ≡ (b ∷ bytes) ∷ []
whole b [] long = whole_step b [] (decided (b == 10)) long (λ _. refl)
whole b (c ∷ bytes) long = whole_step b (c ∷ bytes) (decided (b == 10)) long (λ longer. ap (onto_first b) (whole c bytes longer))

at_some : (b : Bool) (n end : ℕ) → cond b (Some n) None ≡ Some end → (b ≡ true) × (n ≡ end)
at_some true n end is = (refl, cc)
at_some false n end is = cc

at_none : (b : Bool) (n : ℕ) → (let o : Option ℕ = cond b (Some n) None in o) ≡ None → b ≡ false
at_none true n is = cc
at_none false n is = refl

below : (n m : ℕ) → nat_lt n m ≡ true → n < m
below n m is = grind (arith, nat_tests)

not_below : (n m : ℕ) → nat_lt n m ≡ false → m ≤ n
not_below n m is = grind (arith, nat_tests)

-- where a line feed is found
pub cut_at : (bytes : List ℕ) (end : ℕ) → position (λ b. b == 10) bytes ≡ Some end → lines_of bytes ≡ take end bytes ∷ lines_of (drop (end + 1) bytes)
cut_at bytes end is =
    let here = at_some (nat_lt (feed_at bytes) (length bytes)) (feed_at bytes) end is in
    let within = below (feed_at bytes) (length bytes) here.0 in
    let next : suc end ≡ end + 1 = omega arith in
    cut bytes end here.1 (omega arith) ∙ ap (λ n. take end bytes ∷ lines_of (drop n bytes)) next

-- where none is
pub uncut : (bytes : List ℕ) → 0 < length bytes → position (λ b. b == 10) bytes ≡ None → lines_of bytes ≡ bytes ∷ []
uncut [] some none = absurd (omega arith)
uncut (b ∷ bytes) some none =
    whole b bytes (not_below _ _ (at_none (nat_lt (feed_at (b ∷ bytes)) (length (b ∷ bytes))) (feed_at (b ∷ bytes)) none))

without_first : (b : ℕ) (line : List ℕ) → HasNoFeed (b ∷ line) → HasNoFeed line
without_first b line none = λ k d inside. none (suc k) d (omega arith)

line_then : (line rest : List ℕ) → HasNoFeed line → lines_of (line ++ 10 ∷ rest) ≡ line ∷ lines_of rest
line_then [] rest none = refl
line_then (b ∷ line) rest none =
    let other : (b == 10) ≡ false = none 0 b (omega arith) in
    let here : lines_of ((b ∷ line) ++ 10 ∷ rest) ≡ onto_first b (lines_of (line ++ 10 ∷ rest)) = rw other refl in
    here ∙ ap (onto_first b) (line_then line rest (without_first b line none))

last_line : (line : List ℕ) → HasNoFeed line → lines_of line ≡ if_any line
last_line [] none = refl
last_line (b ∷ []) none = let other : (b == 10) ≡ false = none 0 b (omega arith) in rw other refl
last_line (b ∷ c ∷ line) none =
    let other : (b == 10) ≡ false = none 0 b (omega arith) in
    let here : lines_of (b ∷ c ∷ line) ≡ onto_first b (lines_of (c ∷ line)) = rw other refl in
    here ∙ ap (onto_first b) (last_line (c ∷ line) (without_first b (c ∷ line) none))

pub lines_spelled : LinesSpelled
lines_spelled [] last none no_last = last_line last no_last
lines_spelled (line ∷ lines) last none no_last =
    ap lines_of (append_assoc (line ++ 10 ∷ []) (spelled lines) last ∙ append_assoc line (10 ∷ []) (spelled lines ++ last))
    ∙ (line_then line (spelled lines ++ last) (none 0 line (omega arith))
    ∙ ap (λ ls. line ∷ ls) (lines_spelled lines last (λ k d inside. none (suc k) d (omega arith)) no_last))

-- a blank more at the end, and any other byte more
pub trimmed_length-blank : (bytes : List ℕ) (b : ℕ) → is_blank b ≡ true → trimmed_length (bytes ++ b ∷ []) ≡ trimmed_length bytes
trimmed_length-blank [] b is = rw is refl
trimmed_length-blank (x ∷ bytes) b is = ap (λ n. if n == 0 && is_blank x then 0 else n + 1) (trimmed_length-blank bytes b is)

pub trimmed_length-other : (bytes : List ℕ) (b : ℕ) → is_blank b ≡ false → trimmed_length (bytes ++ b ∷ []) ≡ length bytes + 1
trimmed_length-other [] b is = rw is refl
trimmed_length-other (x ∷ bytes) b is =
    let some : (length bytes + 1 == 0) ≡ false = grind (arith, nat_tests) in
    let more : length bytes + 1 + 1 ≡ suc (length bytes) + 1 = omega arith in
    ap (λ n. if n == 0 && is_blank x then 0 else n + 1) (trimmed_length-other bytes b is) ∙ rw some more
