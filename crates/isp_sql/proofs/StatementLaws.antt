-- The statement that is read of a text is the one that the grammar says.
use Rattle.std.proofs.Common.{◌≡◌, ◌∙◌, ℕ, List, Option, Some, None, Result, Ok, Err, IfOk, refl, sym, ap}
use Rattle.std.specs.Option.{option_and_then}
use Rattle.isp_tokens.specs.declared.error.SqlError.{SqlError}
use Rattle.isp_tokens.specs.declared.error.SqlError.TheVariants.{Syntax, OutOfMemory}
use Rattle.isp_sql.specs.declared.parsed.Parsed.{Parsed}
use Rattle.isp_tokens.specs.declared.token.Token.{Token}
use Rattle.isp_sql.specs.Grammar.{IsStatement}
use Rattle.isp_sql.specs.Laws.{IsRead, OneMeaning, ReadAsWritten}
use Rattle.isp_sql.specs.Reading.{IsParsed, parsed_in, parsed_of}
use Rattle.isp_tokens.specs.Scanning.{tokens_of}
use Rattle.isp_sql.proofs.CompleteForms.{parsed_again}
use Rattle.isp_sql.proofs.SoundForms.{parsed_sound}
use Rattle.isp_tokens.proofs.OneTokenSound.{never}
use Rattle.isp_tokens.proofs.TokenLaws.{tokens_sound}
use Rattle.isp_tokens.proofs.TokensAgain.{tokens_again}

chained : (f : List Token → Option Parsed) (o : Option (List Token)) (p : Parsed) → option_and_then f o ≡ Some p → (ts : List Token) × (o ≡ Some ts) × (f ts ≡ Some p)
chained f (Some ts) p e = (ts, refl, e)
chained f None p e = never p e

pub text_sound : (text : List ℕ) (p : Parsed) → parsed_of text ≡ Some p → IsStatement p text
unfolding parsed_of IsStatement
text_sound text p e =
    let c = chained parsed_in (tokens_of text) p e in
    (c.0, tokens_sound text c.0 c.1, parsed_sound c.0 p c.2)

pub text_again : (text : List ℕ) (p : Parsed) → IsStatement p text → parsed_of text ≡ Some p
unfolding parsed_of IsStatement
text_again text p m = ap (option_and_then parsed_in) (tokens_again text m.0 m.1) ∙ parsed_again p m.0 m.2

some_one : (p q : Parsed) → ◌≡◌ {A = Option Parsed} (Some p) (Some q) → p ≡ q
some_one p q e = cc

pub found : (r : Result Parsed SqlError) (text : List ℕ) → IsParsed r (parsed_of text) → IfOk r (λ p. IsStatement p text)
found (Ok p) text e = text_sound text p e
found (Err e) text h = tt

pub only : (r : Result Parsed SqlError) (text : List ℕ) → IsParsed r (parsed_of text) → (p : Parsed) → IsStatement p text → IsRead r p
only (Ok q) text e p m = some_one q p (sym e ∙ text_again text p m)
only (Err Syntax) text e p m = never p (sym e ∙ text_again text p m)
only (Err OutOfMemory) text e p m = tt

pub one_meaning : OneMeaning
one_meaning p q text m n = some_one p q (sym (text_again text p m) ∙ text_again text q n)

pub read_as_written : ReadAsWritten
read_as_written p text = (text_again text p, text_sound text p)
