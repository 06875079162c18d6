-- A table of predicate locks: the searches in order of beginning, each with the pages that it is on (Kornacker, Mohan and
-- Hellerstein 1997).
use Rattle.std.specs.Prelude.{◌≡◌, ℕ, ◌==◌, ◌&&◌, Bool, false, not, cond, List, [], ◌∷◌, ◌++◌, filter, find, map, Option, Some, None}
use Rattle.std.specs.List.{fold, list_all}
use Rattle.std.specs.Option.{option_map}
use Rattle.isp_base.specs.Lists.{Has}
use Rattle.isp_base.specs.declared.page_no.PageNo.{PageNo}
use Rattle.isp_mbr.specs.Corners.{Corners}
use Rattle.isp_mbr.specs.Predicates.{may_hold}
use Rattle.isp_forest.specs.Steps.{is_among}
use Rattle.isp_predlock.specs.declared.entries.On.{On}
use Rattle.isp_predlock.specs.declared.entries.Percolation.{Percolation}
use Rattle.isp_predlock.specs.declared.entries.SearchId.{SearchId}
use Rattle.isp_predlock.specs.declared.entries.Sought.{Sought}

-- a search: its number, what it began with, and the pages that it is on, in the order in which it was attached to them
pub record HeldSearch : Type 0 where
  pub id : ℕ
  pub sought : Sought
  pub on : List ℕ

-- the searches in order of beginning, and how many attachments take no memory
pub record PredTable : Type 0 where
  pub searches : List HeldSearch
  pub spare : ℕ

-- ---- searches by their numbers

abbrev pub id_of : HeldSearch → ℕ
id_of x = x.id

abbrev pub has_id : ℕ → HeldSearch → Bool
has_id id x = x.id == id

-- there is a search of that number
abbrev pub is_there : List HeldSearch → ℕ → Bool
is_there searches id = is_among (map id_of searches) id

-- two searches with one number are one
abbrev pub AreNamed : List HeldSearch → Type 0
AreNamed searches = (x y : HeldSearch) → Has searches x → Has searches y → x.id ≡ y.id → x ≡ y

abbrev pub of_found : {A : Type 0} → (HeldSearch → Option A) → Option HeldSearch → Option A
of_found f None = None
of_found f (Some x) = f x

-- what is said of the search of that number
abbrev pub at_id : {A : Type 0} → List HeldSearch → (HeldSearch → Option A) → ℕ → Option A
at_id searches f id = of_found f (find (has_id id) searches)

abbrev pub passes_found : (HeldSearch → Bool) → Option HeldSearch → Bool
passes_found test None = false
passes_found test (Some x) = test x

-- the search of that number passes the test
abbrev pub passes_at : List HeldSearch → (HeldSearch → Bool) → ℕ → Bool
passes_at searches test id = passes_found test (find (has_id id) searches)

abbrev pub is_on_page : ℕ → HeldSearch → Bool
is_on_page q x = is_among x.on q

-- the search of that number is on page q
abbrev pub is_on : List HeldSearch → ℕ → ℕ → Bool
is_on searches id q = passes_at searches (is_on_page q) id

-- what the search of that number began with
abbrev pub sought_of : List HeldSearch → ℕ → Option Sought
sought_of searches id = option_map (λ x. x.sought) (find (has_id id) searches)

abbrev pub pages_found : Option HeldSearch → List ℕ
pages_found None = []
pages_found (Some x) = x.on

-- the pages that the search of that number is on
abbrev pub pages_of : List HeldSearch → ℕ → List ℕ
pages_of searches id = pages_found (find (has_id id) searches)

abbrev pub page_number : PageNo → ℕ
page_number page = page.0

-- ---- what is told of a search

abbrev pub id_told : HeldSearch → SearchId
id_told x = record { 0 = x.id }

abbrev pub on_of : HeldSearch → On
on_of x = record { search = id_told x; session = x.sought.session; predicate = x.sought.predicate }

abbrev pub told : HeldSearch → Option On
told x = Some (on_of x)

-- the search, if it is on page q
abbrev pub told_on : ℕ → HeldSearch → Option On
told_on q x = cond (is_among x.on q) (told x) None

-- its number, if it is the session's
abbrev pub id_in : ℕ → HeldSearch → Option SearchId
id_in session x = cond (x.sought.session == session) (Some (id_told x)) None

-- ---- the table after a call

-- a search is begun, and on no page
abbrev pub with_begun : PredTable → ℕ → Sought → PredTable
with_begun table id sought = record table { searches = table.searches ++ record { id = id; sought = sought; on = [] } ∷ [] }

-- the search is on page q too
abbrev pub with_page : ℕ → HeldSearch → HeldSearch
with_page q x = record x { on = cond (is_among x.on q) x.on (x.on ++ q ∷ []) }

-- so is the search of that number
abbrev pub attached_by : ℕ → ℕ → HeldSearch → HeldSearch
attached_by id q x = cond (has_id id x) (with_page q x) x

abbrev pub with_page_at : List HeldSearch → ℕ → ℕ → List HeldSearch
with_page_at searches id q = map (attached_by id q) searches

-- the search is on the pages that the list has for it too
abbrev pub with_pages : List Percolation → HeldSearch → HeldSearch
with_pages list x = fold (λ (y : HeldSearch) (found : Percolation). attached_by found.search.0 found.page.0 y) x list

-- the searches of the list are there
abbrev pub are_there : List HeldSearch → List Percolation → Bool
are_there searches list = list_all (λ (found : Percolation). is_there searches found.search.0) list

-- the search is on page p, and the box may hold what it looks for
abbrev pub is_copied : ℕ → Corners → HeldSearch → Bool
is_copied p box x = is_among x.on p && may_hold x.sought.predicate box

-- then it is on page q too
abbrev pub copied_on : ℕ → ℕ → Corners → HeldSearch → HeldSearch
copied_on p q box x = cond (is_copied p box x) (with_page q x) x

-- only the search of that number is
abbrev pub copied_by : ℕ → ℕ → ℕ → Corners → HeldSearch → HeldSearch
copied_by id p q box x = cond (has_id id x) (copied_on p q box x) x

-- the searches without those of a session
abbrev pub without_session : List HeldSearch → ℕ → List HeldSearch
without_session searches session = filter (λ x. not (x.sought.session == session)) searches
