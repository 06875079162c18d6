-- The words of the grammar, and what the functions among them test. They are read without regard to case (the MySQL
-- 8.0 manual on keywords, and on functions that use minimum bounding rectangles).
use Rattle.std.specs.Prelude.{ℕ, Bool, List, [], ◌∷◌, map, codes, if◌then◌else◌, Option, Some, None}
use Rattle.std.specs.Char.{to_ascii_lowercase}
use Rattle.std.specs.Str.{bytes_eq}
use denote.Enum.Bare.{sameb}
use Rattle.isp_mbr.specs.declared.Test.{Test}
use Rattle.isp_mbr.specs.declared.Test.TheVariants as test
use Rattle.isp_tokens.specs.contracts.words.Word.{the_type}
use Rattle.isp_tokens.specs.declared.words.Word.{Word}
use Rattle.isp_tokens.specs.declared.words.Word.TheVariants as word

-- how a word is written, but for its case
unfoldable pub spelling : Word → List ℕ
spelling word.Begin = codes "BEGIN"
spelling word.Start = codes "START"
spelling word.Transaction = codes "TRANSACTION"
spelling word.Commit = codes "COMMIT"
spelling word.Rollback = codes "ROLLBACK"
spelling word.Create = codes "CREATE"
spelling word.Table = codes "TABLE"
spelling word.BigInt = codes "BIGINT"
spelling word.Not = codes "NOT"
spelling word.Null = codes "NULL"
spelling word.Primary = codes "PRIMARY"
spelling word.Key = codes "KEY"
spelling word.Spatial = codes "SPATIAL"
spelling word.Index = codes "INDEX"
spelling word.VarChar = codes "VARCHAR"
spelling word.Geometry = codes "GEOMETRY"
spelling word.Srid = codes "SRID"
spelling word.Insert = codes "INSERT"
spelling word.Into = codes "INTO"
spelling word.Values = codes "VALUES"
spelling word.Select = codes "SELECT"
spelling word.From = codes "FROM"
spelling word.Update = codes "UPDATE"
spelling word.Set = codes "SET"
spelling word.Delete = codes "DELETE"
spelling word.Where = codes "WHERE"
spelling word.And = codes "AND"
spelling word.GeomFromText = codes "ST_GeomFromText"
spelling word.Contains = codes "MBRContains"
spelling word.Within = codes "MBRWithin"
spelling word.Intersects = codes "MBRIntersects"
spelling word.Disjoint = codes "MBRDisjoint"
spelling word.Equals = codes "MBREquals"
spelling word.Covers = codes "MBRCovers"
spelling word.CoveredBy = codes "MBRCoveredBy"

unfoldable pub words : List Word
words =
    word.Begin ∷ word.Start ∷ word.Transaction ∷ word.Commit ∷ word.Rollback ∷ word.Create ∷ word.Table ∷ word.BigInt ∷ word.Not ∷ word.Null ∷ word.Primary ∷ word.Key ∷ word.Spatial ∷ word.Index ∷ word.VarChar ∷ word.Geometry ∷ word.Srid ∷ word.Insert ∷ word.Into ∷ word.Values ∷ word.Select ∷ word.From ∷ word.Update ∷ word.Set ∷ word.Delete ∷ word.Where ∷ word.And ∷ word.GeomFromText ∷ word.Contains ∷ word.Within ∷ word.Intersects ∷ word.Disjoint ∷ word.Equals ∷ word.Covers ∷ word.CoveredBy ∷ []

unfoldable pub is_word : Word → Word → Bool
is_word = sameb the_type

-- the two are one but for the case of their letters
abbrev pub same_word : List ℕ → List ℕ → Bool
same_word a b = bytes_eq (map to_ascii_lowercase a) (map to_ascii_lowercase b)

abbrev pub word_in : List Word → List ℕ → Option Word
word_in [] text = None
word_in (word ∷ others) text = if same_word (spelling word) text then Some word else word_in others text

-- the word that a text is, if it is one
abbrev pub word_of : List ℕ → Option Word
word_of text = word_in words text

-- The test of a function whose first argument is the column: the column's box stands first in it. Contains and Covers say
-- that the first box covers the second, Within and CoveredBy that the second covers the first.
abbrev pub test_of : Word → Option Test
test_of word.Contains = Some test.Covers
test_of word.Covers = Some test.Covers
test_of word.Within = Some test.Within
test_of word.CoveredBy = Some test.Within
test_of word.Intersects = Some test.Intersects
test_of word.Disjoint = Some test.Disjoint
test_of word.Equals = Some test.Equals
test_of _ = None

-- the test with the other box first
abbrev pub exchanged : Test → Test
exchanged test.Covers = test.Within
exchanged test.Within = test.Covers
exchanged test.Intersects = test.Intersects
exchanged test.Disjoint = test.Disjoint
exchanged test.Equals = test.Equals
