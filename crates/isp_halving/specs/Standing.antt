-- Two pages between the calls of a step: a page that is taken beside the one that is divided, and the parts that are written.
use Rattle.std.specs.Prelude.{◌≡◌, ℕ, ◌+◌, ◌≤◌, true, false, List, length}
use Rattle.isp_base.specs.declared.page_no.PageNo.{PageNo}
use Rattle.isp_division.specs.declared.halves.Halves.{Halves}
use Rattle.isp_format.specs.Ranges.{Contents, page_of}
use Rattle.isp_format.specs.declared.page.Page.{Page}
use Rattle.isp_page.specs.State.{most_changed}
use Rattle.isp_page.specs.Touched.{is_page, unchanged_of}
use Rattle.isp_page.specs.declared.pages.Pages.{Ghosts}
use Rattle.isp_space.specs.Spaces.{IsSpace, Space, next_free, taken}
use Rattle.isp_halving.specs.declared.Entry.{Entry}

-- the page is one that was free, another one than that page, whose bytes were read and stay
pub record IsTakenFor (pages : ℕ) (old new : Contents) (page : ℕ) (bytes : List ℕ) (s : Space) (right : ℕ) : Type 0 where
  pub is_next : right ≡ next_free s
  pub is_space : IsSpace pages new (taken s)
  pub differs : is_page right page ≡ false
  pub read : bytes ≡ page_of old page
  pub stays : page_of new page ≡ page_of old page

abbrev pub TakesFor : {S : Type 0} → Ghosts S → S → S → ℕ → Page → Space → PageNo → Type 0
TakesFor g old new page into s right = IsTakenFor (g.shape new).pages (g.contents old) (g.contents new) page into.bytes s right.0

-- the store can be used, and a mini-transaction is begun that has room for those of these pages that it hasn't changed
pub record MayWrite {S : Type 0} (g : Ghosts S) (list : List ℕ) (now : S) : Type 0 where
  pub usable : g.usable now ≡ true
  pub begun : (g.mini now).is_begun ≡ true
  pub room : length (g.mini now).changed + unchanged_of list (g.mini now).changed ≤ most_changed

-- the left part stands on the page, the right one on that of the entry, which has its key
pub record IsWritten (new : Contents) (page : ℕ) (parts : Halves) (entry : Entry) : Type 0 where
  pub left : page_of new page ≡ parts.left.bytes
  pub right_is : page_of new entry.page.0 ≡ parts.right.bytes
  pub key_is : entry.key ≡ parts.key
