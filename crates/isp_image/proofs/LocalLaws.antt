-- A kept file stands on its pages in use alone.
use Rattle.std.proofs.Common.{◌≡◌, ℕ, suc, ◌<◌, Bool, true, false, List, map, Some, refl, sym, ap, subst, arith}
use Rattle.std.specs.Prelude.{not, nat_lt, slice_get}
use Rattle.std.proofs.lemmas.Bool.Decides.{nat_tests}
use Rattle.isp_format.specs.Ranges.{Contents, page_of}
use Rattle.isp_format.specs.Space.{IsSpacePage}
use Rattle.isp_page.specs.Touched.{KeepsPages}
use Rattle.isp_catalog.proofs.CatalogueLaws.{local}
use Rattle.isp_space.specs.Spaces.{space_page}
use Rattle.isp_space.proofs.SpaceLaws.{chain_same}
use Rattle.isp_clustered.proofs.TreeLaws.{tree_same}
use Rattle.isp_image.specs.Databases.{Database, FileTable}
use Rattle.isp_image.specs.Files.{IsFileTable, KeptFile}
use Rattle.isp_image.proofs.FileLaws.{def_of}
use Rattle.isp_image.proofs.TreeChanges.{beside_of}

-- a page that was never used
abbrev unused : ℕ → ℕ → Bool
unused fresh page = not (nat_lt page fresh)

pub used_page : (fresh page : ℕ) → unused fresh page ≡ false → page < fresh
used_page fresh page is = by (nat_lt page fresh) refl is
  where
    by : (b : Bool) → nat_lt page fresh ≡ b → not b ≡ false → page < fresh
    by true less out = grind (arith, nat_tests, less)
    by false far out = let bad : true ≡ false = out in absurd (let no_way : ⊥ = cc in no_way)

pub is_used : (fresh page : ℕ) → page < fresh → unused fresh page ≡ false
is_used fresh page less = let is : nat_lt page fresh ≡ true = grind (arith, nat_tests, less) in ap not is

abbrev pub kept_local : (pages : ℕ) (old new : Contents) (db : Database) → KeptFile pages old db → ((page : ℕ) → page < db.space.fresh → page_of new page ≡ page_of old page) → KeptFile pages new db
kept_local pages old new db kept same =
    let space = kept.catalogue.space_is in
    let from = space.fresh_from in
    let fresh = db.space.fresh in
    let keeps : KeepsPages (unused fresh) old new = λ page out. same page (used_page fresh page out) in
    record {
      catalogue = record {
        space_is = record {
          says = subst (λ (bytes : List ℕ). IsSpacePage bytes (space_page db.space)) (sym (same 0 (omega (arith, from)))) space.says;
          chain = chain_same (unused fresh) old new db.space.free keeps (λ k d h. is_used fresh _ (space.inside k d h).1) space.chain;
          inside = space.inside;
          once = space.once;
          fresh_from = space.fresh_from;
          fresh_to = space.fresh_to;
        };
        count = kept.catalogue.count;
        catalogue = local pages old new (map def_of db.tables) (λ page low high. same page (omega (arith, high, from))) kept.catalogue.catalogue;
      };
      each = λ place t is. table_stays place t is;
      noted = kept.noted;
      owner = kept.owner;
      shared = kept.shared;
      trees = kept.trees;
      known = kept.known;
    }
  where
    keeps_all : KeepsPages (unused db.space.fresh) old new
    keeps_all page out = same page (used_page db.space.fresh page out)

    table_stays : (place : ℕ) (t : FileTable) → slice_get db.tables place ≡ Some t → IsFileTable pages new (suc place) t
    table_stays place t is =
        let was = kept.each place t is in
        record {
          number_is = was.number_is;
          tree = tree_same (unused db.space.fresh) pages old new (suc place) t.def.root.0 t.tree keeps_all (λ k d h. is_used db.space.fresh _ ((beside_of pages old db place t kept is).used k d h)) was.tree;
          rows = was.rows;
          each = was.each;
        }
