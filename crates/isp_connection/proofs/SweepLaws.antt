-- Marked rows go once no transaction is open.
use Rattle.std.proofs.Common.{◌≡◌, ℕ, ◌<◌, false, List, [], length, refl, sym, ◌∙◌, ap, subst}
use Rattle.std.specs.List.Sorted.{IsPermutation}
use Rattle.isp_base.specs.declared.page_no.PageNo.{PageNo}
use Rattle.isp_tables.specs.TableLists.{roots_of}
use Rattle.isp_tables.proofs.RootLaws.{are_roots}
use Rattle.isp_chained.specs.Courses.{Reaches}
use Rattle.isp_image.specs.Databases.{Database, FileImage, HasNoMarked}
use Rattle.isp_chained.specs.Chained.{ChainedFile, no_chains}
use Rattle.isp_format.specs.Undo.{undo_slots}
use Rattle.isp_page.specs.declared.pages.Pages.{Ghosts}
use Rattle.isp_serial.specs.Alone.{State}
use Rattle.isp_trx.specs.Roots.{numbers_of}
use Rattle.isp_trx.specs.Transactions.{IsNew, TrxState}
use Rattle.isp_trx.specs.Writes.{CanSweep, Sweeps}
use Rattle.isp_trx.specs.declared.keys.RowKey.{RowKey}
use Rattle.isp_trx_laws.specs.Written.{AreWritten}
use Rattle.isp_trx_laws.proofs.MarkLaws.{none_written, sweep_leaves_none, written_in_any_order, written_may_sweep}
use Rattle.isp_connection.specs.Answering.{ComesTidy}
use Rattle.isp_connection.specs.Connections.{ConnectionState, Holds}
use Rattle.isp_connection.proofs.EndLaws.{as_alone, as_plain, none_chained}

-- the keys of a transaction that ended, in some order
pub ended_keys : (trx ended : TrxState) (keys sorted slice : List RowKey) → ended ≡ trx → keys ≡ ended.keys → IsPermutation keys sorted → slice ≡ sorted → IsPermutation trx.keys slice
ended_keys trx ended keys sorted slice same are order is =
    subst (IsPermutation trx.keys) (sym is) (subst (λ (l : List RowKey). IsPermutation l sorted) (are ∙ ap (λ (t : TrxState). t.keys) same) order)

module _ {S : Type 0} (g : Ghosts S) (old new : S) (c now : ConnectionState) (state : State) (d : Database) (roots : List PageNo) (keys : List RowKey) (h : Holds g old c state d) (outside : c.inside ≡ false)
    (same_roots : numbers_of roots ≡ roots_of c.defs) (same_keys : IsPermutation c.trx.keys keys) where
  plain : ChainedFile (g.shape old).pages (g.contents old) d no_chains
  plain = as_plain c.trx.session (g.shape old).pages (g.contents old) d h.opened.chain (h.outside outside) h.opened.kept

  images_none : d.images ≡ []
  images_none = none_chained (g.shape old).pages (g.contents old) d plain

  written : AreWritten keys d
  written = written_in_any_order c.trx.keys keys d same_keys h.opened.written

  pub can_sweep : CanSweep (g.shape old).pages (g.contents old) no_chains (numbers_of roots) keys d
  can_sweep = written_may_sweep (g.shape old).pages (g.contents old) no_chains (numbers_of roots) keys d plain (are_roots d c.defs roots h.opened.defs_are same_roots) images_none written

  pub swept_tidy : Sweeps (g.shape old).pages (g.contents old) (numbers_of roots) keys keys (g.contents new) → (g.shape new).pages ≡ (g.shape old).pages → now.inside ≡ c.inside → now.defs ≡ c.defs → IsNew c.trx.session now.trx → ComesTidy g new now state d
  swept_tidy sweeps pages inside defs fresh =
      let n = (g.shape new).pages in
      let s = sweeps.makes no_chains d can_sweep in
      let w = s.swept in
      let none : w.after.images ≡ [] = w.images ∙ images_none in
      let tidy : HasNoMarked w.after = sweep_leaves_none (g.shape old).pages (g.contents new) no_chains keys d written s in
      record {
        comes = record {
          after = w.after;
          holds = record {
            opened = record {
              chain = [];
              kept = as_alone now.trx.session n (g.contents new) w.after (subst (λ (k : ℕ). ChainedFile k (g.contents new) w.after no_chains) (sym pages) w.kept);
              slot = subst (λ (k : ℕ). k < undo_slots) (sym fresh.session_is) h.opened.slot;
              defs_are = w.defs ∙ h.opened.defs_are ∙ sym defs;
              noted = fresh.count ∙ sym (ap (λ (l : List FileImage). length l) none);
              written = subst (λ (l : List RowKey). AreWritten l w.after) (sym fresh.keys) (none_written w.after none tidy);
            };
            outside = λ _. refl;
            setup = λ session. inside ∙ h.setup (sym fresh.session_is ∙ session);
            inside = inside ∙ h.inside;
            present = w.now ∙ h.present;
            committed_are = w.same ∙ h.committed_are;
          };
          reaches = subst (λ (k : ℕ). Reaches k d w.after) (sym pages) w.reaches;
        };
        tidy = λ _. tidy;
      }
