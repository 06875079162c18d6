-- What holds of all texts and words.
use Rattle.std.proofs.Common.{refl}
use Rattle.isp_tokens.specs.Laws.{TokensAsWritten, WordsAreKnown}
use Rattle.isp_tokens.specs.Words.{spelling, words as all_words}
use Rattle.isp_tokens.specs.declared.words.Word.TheVariants as words
use Rattle.isp_tokens.proofs.TokenLaws.{tokens_sound}
use Rattle.isp_tokens.proofs.TokensAgain.{tokens_again}

pub as_written : TokensAsWritten
as_written tokens text = (tokens_again text tokens, tokens_sound text tokens)

pub words_known : WordsAreKnown
unfolding spelling all_words
words_known words.Begin = refl
words_known words.Start = refl
words_known words.Transaction = refl
words_known words.Commit = refl
words_known words.Rollback = refl
words_known words.Create = refl
words_known words.Table = refl
words_known words.BigInt = refl
words_known words.Not = refl
words_known words.Null = refl
words_known words.Primary = refl
words_known words.Key = refl
words_known words.Spatial = refl
words_known words.Index = refl
words_known words.VarChar = refl
words_known words.Geometry = refl
words_known words.Srid = refl
words_known words.Insert = refl
words_known words.Into = refl
words_known words.Values = refl
words_known words.Select = refl
words_known words.From = refl
words_known words.Update = refl
words_known words.Set = refl
words_known words.Delete = refl
words_known words.Where = refl
words_known words.And = refl
words_known words.GeomFromText = refl
words_known words.Contains = refl
words_known words.Within = refl
words_known words.Intersects = refl
words_known words.Disjoint = refl
words_known words.Equals = refl
words_known words.Covers = refl
words_known words.CoveredBy = refl
