-- The pages of an empty file: the headers of the sixteen pages that every file has, and the first page never used.
use Rattle.std.specs.Prelude.{ℕ, zero, suc, List, [], ◌∷◌, ◌++◌}
use Rattle.isp_format.specs.Header.{Header, header_bytes}
use Rattle.isp_format.specs.Kinds.{catalogue_kind, space_kind, undo_directory_kind}
use Rattle.isp_format.specs.Numbers.{bytes_of}
use Rattle.isp_format.specs.Ranges.{Contents, Range, puts}

-- how many pages every file has in use
abbrev pub first_fresh : ℕ
first_fresh = 16

-- page 0 has the space, page 1 the directory of undo chains, and the others the catalogue
abbrev pub first_kind : ℕ → ℕ
first_kind zero = space_kind
first_kind (suc zero) = undo_directory_kind
first_kind (suc (suc page)) = catalogue_kind

abbrev pub first_header : ℕ → Header
first_header page = record { kind = first_kind page; level = 0; count = 0; owner = 0; next = 0; prev = 0; ssn = 0; own = page; used = 0 }

-- the headers of so many of the first pages
abbrev pub first_headers : ℕ → List Range
first_headers zero = []
first_headers (suc page) = first_headers page ++ (record { page = page; at = 0; bytes = header_bytes (first_header page) }) ∷ []

-- where page 0 has the number of the first page never used
abbrev pub fresh_place : ℕ
fresh_place = 72

abbrev pub fresh_range : Range
fresh_range = record { page = 0; at = fresh_place; bytes = bytes_of 4 first_fresh }

-- the contents of all pages of an empty file
unfoldable pub empty_contents : Contents
empty_contents = puts (first_headers first_fresh ++ fresh_range ∷ []) (λ place. 0)
