-- The text of a reply, as a line shows it behind its turn, session and number.
use Rattle.std.specs.Prelude.{ℕ, ◌==◌, List, [], ◌∷◌, ◌++◌, length, codes, if◌then◌else◌}
use Rattle.std.specs.Fmt.{decimal, signed_decimal}
use Rattle.std.specs.List.{flat_map}
use Rattle.isp_wkt.specs.Printed.{printed}
use Rattle.isp_plain.specs.declared.refusal.Refusal.TheVariants.{FileFull, Deadlock}
use Rattle.isp_plain.specs.declared.value.Row.{Row}
use Rattle.isp_plain.specs.declared.value.Value.{Value}
use Rattle.isp_plain.specs.declared.value.Value.TheVariants.{Int, Text, Geo}
use Rattle.isp_plain.specs.declared.statement.Reply.{Reply}
use Rattle.isp_plain.specs.declared.statement.Reply.TheVariants as reply
use Rattle.isp_plain.specs.Refusals.{refusal_text}

unfoldable pub ok_text : List ℕ
ok_text = codes "OK"

unfoldable pub end_text : List ℕ
end_text = codes "END"

-- a file with no room for the change
unfoldable pub full_text : List ℕ
full_text = refusal_text FileFull

-- the victim of a deadlock
unfoldable pub deadlock_text : List ℕ
deadlock_text = refusal_text Deadlock

-- ---- rows

-- a quote stands twice
abbrev pub doubled : ℕ → List ℕ
doubled b = if b == 39 then 39 ∷ 39 ∷ [] else b ∷ []

-- in quotes
abbrev pub quoted : List ℕ → List ℕ
quoted text = 39 ∷ (flat_map doubled text ++ 39 ∷ [])

abbrev pub value_text : Value → List ℕ
value_text (Int number) = signed_decimal number
value_text (Text text) = quoted text
value_text (Geo form) = printed form

-- the values with a comma between each two
abbrev pub values_text : List Value → List ℕ
values_text [] = []
values_text (first ∷ others) = value_text first ++ flat_map (λ value. 44 ∷ value_text value) others

-- a row as (v,..)
abbrev pub row_text : Row → List ℕ
row_text row = 40 ∷ (values_text row.values ++ 41 ∷ [])

-- ---- replies

abbrev pub count_text : ℕ → List ℕ
count_text n = codes "OK " ++ (decimal n ++ codes " rows")

abbrev pub reply_text : Reply → List ℕ
reply_text reply.Ok = ok_text
reply_text (reply.Count n) = count_text n
reply_text (reply.Rows rows) = count_text (length rows) ++ flat_map (λ row. 32 ∷ row_text row) rows
reply_text (reply.Err refusal) = refusal_text refusal
reply_text reply.End = end_text
