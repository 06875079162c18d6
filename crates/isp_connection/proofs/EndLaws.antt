-- How a statement ends: what it is answered and leaves, committed or not.
use Rattle.std.proofs.Common.{◌≡◌, ℕ, ◌<◌, Bool, true, false, List, [], length, map, refl, sym, ◌∙◌, ap, subst, if◌then◌else◌}
use Rattle.std.specs.Prelude.{Result, Err, IfErr}
use Rattle.isp_catalog.specs.declared.table.TableDef.{TableDef}
use Rattle.isp_changes.specs.Changes.{after_changes}
use Rattle.isp_writes.specs.Causes.{FillsUp}
use Rattle.isp_tables.specs.Opened.{IsOpen, defs_in}
use Rattle.isp_chained.specs.Courses.{Reaches}
use Rattle.isp_format.specs.Ranges.{Contents}
use Rattle.isp_format.specs.Undo.{undo_slots}
use Rattle.isp_image.specs.Databases.{Database, FileImage, FileTable, HasNoMarked, back_of, committed, tables_of}
use Rattle.isp_undo.specs.Chains.{Chain}
use Rattle.isp_chained.specs.Chained.{ChainedFile, alone, no_chains}
use Rattle.isp_chained.specs.Laws.{OneChain}
use Rattle.isp_chained.proofs.AloneLaws.{alone_none, alone_one}
use Rattle.isp_chained.proofs.PlainLaws.{chained_plain}
use Rattle.isp_chained.proofs.CourseLaws.{reaches_more, reaches_on, reaches_self}
use Rattle.isp_page.specs.declared.pages.Pages.{Ghosts}
use Rattle.isp_plain.specs.Does.{does}
use Rattle.isp_plain.specs.Tables.{Table}
use Rattle.isp_plain.specs.declared.refusal.Refusal.TheVariants.{FileFull}
use Rattle.isp_plain.specs.declared.statement.Reply.{Reply}
use Rattle.isp_plain.specs.declared.statement.Reply.TheVariants as reply
use Rattle.isp_plain.specs.declared.statement.Statement.{Statement}
use Rattle.isp_plain.specs.declared.statement.Statement.TheVariants.{Create, Insert, Select, Update, Delete, Begin, Commit, Rollback, Refused}
use Rattle.isp_serial.specs.Alone.{State, after_statement, changed, effect_by, rolled_back, settled}
use Rattle.isp_serial.specs.Transactions.{stays}
use Rattle.isp_trx.specs.Transactions.{HasCommitted, IsNew, TrxState}
use Rattle.isp_trx.specs.Writes.{CanCommit, DidCommit}
use Rattle.isp_trx.specs.declared.keys.RowKey.{RowKey}
use Rattle.isp_trx_laws.specs.Written.{AreWritten}
use Rattle.isp_trx_laws.proofs.MarkLaws.{commit_adds_none, none_written}
use Rattle.isp_work.specs.Works.{is_rollback}
use Rattle.isp_connection.specs.Answering.{Answered, Comes, CommitsAll, GoesBack, IsDone, Settles, is_create, reply_or_full, state_or_full}
use Rattle.isp_connection.specs.Connections.{ConnectionState, Holds}

-- ---- a connection is opened

-- where no slot has a chain no old row is noted
pub none_chained : (pages : ℕ) (contents : Contents) (d : Database) → ChainedFile pages contents d no_chains → d.images ≡ []
none_chained pages contents d kept = (chained_plain pages contents d kept).none

-- a file without chains is one where that slot alone has an empty one
pub as_alone : (slot pages : ℕ) (contents : Contents) (d : Database) → ChainedFile pages contents d no_chains → ChainedFile pages contents d (alone slot [])
as_alone slot pages contents d kept = subst (λ (chains : List Chain). ChainedFile pages contents d chains) (sym (alone_none slot)) kept

pub as_plain : (slot pages : ℕ) (contents : Contents) (d : Database) (chain : Chain) → chain ≡ [] → ChainedFile pages contents d (alone slot chain) → ChainedFile pages contents d no_chains
as_plain slot pages contents d chain none kept = subst (λ (chains : List Chain). ChainedFile pages contents d chains) (ap (alone slot) none ∙ alone_none slot) kept

-- the same of other pages that are as many and have the same contents
pub kept_same : (n m : ℕ) (old new : Contents) (d : Database) (chains : List Chain) → m ≡ n → new ≡ old → ChainedFile n old d chains → ChainedFile m new d chains
kept_same n m old new d chains pages contents kept =
    subst (λ (k : ℕ). ChainedFile k new d chains) (sym pages) (subst (λ (c : Contents). ChainedFile n c d chains) (sym contents) kept)

pub opens : {S : Type 0} (g : Ghosts S) (old new : S) (session : ℕ) (defs : List TableDef) (trx : TrxState) (d : Database) → (g.shape new).pages ≡ (g.shape old).pages → g.contents new ≡ g.contents old → ChainedFile (g.shape old).pages (g.contents old) d no_chains
    → HasNoMarked d → defs ≡ defs_in d → session < undo_slots → IsNew session trx → Holds g new (record { inside = false; defs = defs; trx = trx }) (settled (tables_of d)) d
opens g old new session defs trx d pages contents kept tidy are slot fresh =
    let none : d.images ≡ [] = none_chained (g.shape old).pages (g.contents old) d kept in
    record {
      opened = record {
        chain = [];
        kept = kept_same (g.shape old).pages (g.shape new).pages (g.contents old) (g.contents new) d (alone trx.session []) pages contents (as_alone trx.session (g.shape old).pages (g.contents old) d kept);
        slot = subst (λ (n : ℕ). n < undo_slots) (sym fresh.session_is) slot;
        defs_are = sym are;
        noted = fresh.count ∙ sym (ap (λ (l : List FileImage). length l) none);
        written = subst (λ (keys : List RowKey). AreWritten keys d) (sym fresh.keys) (none_written d none tidy);
      };
      outside = λ _. refl;
      setup = λ _. refl;
      inside = refl;
      present = refl;
      committed_are = ap (λ (l : List FileImage). after_changes (tables_of d) (map back_of l)) none;
    }

-- ---- where the run stands

pub no_way : {X : Type 0} → true ≡ false → X
no_way is = cc

holds_inside : {S : Type 0} (g : Ghosts S) (now : S) (c : ConnectionState) (state : State) (d db : Database) (after : List Table) (full : Bool) → IsOpen g now c.defs c.trx db → (c.trx.session ≡ 0 → c.inside ≡ false) → c.inside ≡ state.inside → state.inside ≡ true → tables_of d ≡ state.present
    → tables_of db ≡ (if full then tables_of d else after) → committed db ≡ state.committed → Holds g now c (if full then state else changed state after) db
holds_inside g now c state d db after true opened setup same inside present tables stand = record {
  opened = opened;
  outside = λ not. no_way (sym (same ∙ inside) ∙ not);
  setup = setup;
  inside = same;
  present = tables ∙ present;
  committed_are = stand;
}
holds_inside g now c state d db after false opened setup same inside present tables stand = record {
  opened = opened;
  outside = λ not. no_way (sym (same ∙ inside) ∙ not);
  setup = setup;
  inside = same;
  present = tables;
  committed_are = stand ∙ sym (ap (λ (b : Bool). if b then state.committed else after) inside);
}

holds_outside : {S : Type 0} (g : Ghosts S) (now : S) (c : ConnectionState) (state : State) (d db : Database) (after : List Table) (full : Bool) (opened : IsOpen g now c.defs c.trx db) → opened.chain ≡ [] → (c.trx.session ≡ 0 → c.inside ≡ false) → c.inside ≡ state.inside → state.inside ≡ false
    → tables_of d ≡ state.present → state.committed ≡ state.present → tables_of db ≡ (if full then tables_of d else after) → committed db ≡ tables_of db → Holds g now c (if full then state else changed state after) db
holds_outside g now c state d db after true opened none setup same outside present rest tables stand = record {
  opened = opened;
  outside = λ _. none;
  setup = setup;
  inside = same;
  present = tables ∙ present;
  committed_are = stand ∙ tables ∙ present ∙ sym rest;
}
holds_outside g now c state d db after false opened none setup same outside present rest tables stand = record {
  opened = opened;
  outside = λ _. none;
  setup = setup;
  inside = same;
  present = tables;
  committed_are = stand ∙ tables ∙ sym (ap (λ (b : Bool). if b then state.committed else after) outside);
}

-- outside of a transaction no old row is noted
pub none_outside : {S : Type 0} (g : Ghosts S) (now : S) (defs : List TableDef) (trx : TrxState) (d : Database) (opened : IsOpen g now defs trx d) → opened.chain ≡ [] → d.images ≡ []
none_outside g now defs trx d opened none = none_chained (g.shape now).pages (g.contents now) d (as_plain trx.session (g.shape now).pages (g.contents now) d opened.chain none opened.kept)

-- outside of a transaction the tables of now are the committed ones
pub at_rest : {S : Type 0} (g : Ghosts S) (now : S) (c : ConnectionState) (state : State) (d : Database) → Holds g now c state d → state.inside ≡ false → state.committed ≡ state.present
at_rest g now c state d h outside =
    let images : d.images ≡ [] = none_outside g now c.defs c.trx d h.opened (h.outside (h.inside ∙ outside)) in
    sym h.committed_are ∙ ap (λ (l : List FileImage). after_changes (tables_of d) (map back_of l)) images ∙ h.present

fills_later : (pages : ℕ) (start d after : Database) → FillsUp pages start d → Reaches pages d after → FillsUp pages start after
fills_later pages start d after f more = record { at = f.at; before = f.before; behind = reaches_on pages f.at d after f.behind more; full = f.full }

-- ---- a statement is answered

-- one that ends no transaction and begins none
pub no_rollback : (s : Statement) → effect_by s ≡ stays → is_rollback s ≡ false
no_rollback (Create name schema) no_end = refl
no_rollback (Insert name rows) no_end = refl
no_rollback (Select name columns w) no_end = refl
no_rollback (Update name sets w) no_end = refl
no_rollback (Delete name w) no_end = refl
no_rollback Begin no_end = refl
no_rollback Commit no_end = refl
no_rollback Rollback no_end = cc
no_rollback (Refused refusal) no_end = refl

-- what it leaves
after_stays : (state : State) (s : Statement) → effect_by s ≡ stays → after_statement state s ≡ changed state (does state.present s).tables
after_stays state (Create name schema) no_end = refl
after_stays state (Insert name rows) no_end = refl
after_stays state (Select name columns w) no_end = refl
after_stays state (Update name sets w) no_end = refl
after_stays state (Delete name w) no_end = refl
after_stays state Begin no_end = cc
after_stays state Commit no_end = cc
after_stays state Rollback no_end = cc
after_stays state (Refused refusal) no_end = refl

-- one that is done, and what became of its transaction
module _ {S : Type 0} (g : Ghosts S) (mid now : S) (c : ConnectionState) (trx : TrxState) (state : State) (d : Database) (statement : Statement) (said : Reply) (done : IsDone g mid c.defs trx statement d said) (no_end : effect_by statement ≡ stays)
    (present : tables_of d ≡ state.present) (rest : state.inside ≡ false → state.committed ≡ state.present) (stand : committed d ≡ state.committed)
    (setup : c.trx.session ≡ 0 → c.inside ≡ false) (same : c.inside ≡ state.inside) (pages : (g.shape now).pages ≡ (g.shape mid).pages) where
  abbrev full : Bool
  full = done.full

  abbrev after : List Table
  after = (does state.present statement).tables

  reached : Reaches (g.shape now).pages d done.after
  reached = subst (λ (n : ℕ). Reaches n d done.after) (sym pages) done.reaches

  caused : full ≡ true → FillsUp (g.shape now).pages d done.after
  caused filled = subst (λ (n : ℕ). FillsUp n d done.after) (sym pages) (done.cause filled)

  answer : said ≡ reply_or_full full state statement
  answer = done.answer_is ∙ ap (λ (ts : List Table). if full then reply.Err FileFull else (does ts statement).reply) present

  tables : tables_of done.after ≡ (if full then tables_of d else after)
  tables = done.tables ∙ ap (λ (ts : List Table). if full then tables_of d else (does ts statement).tables) present

  left : (if full then state else changed state after) ≡ state_or_full full state statement
  left = ap (λ (s : State). if full then state else s) (sym (after_stays state statement no_end))

  done_inside : state.inside ≡ true → is_create statement ≡ false → IsOpen g now c.defs c.trx done.after → Answered g now c state statement d said
  done_inside inside not opened = record {
    full = full;
    answer_is = answer;
    comes = record {
      after = done.after;
      holds = subst (λ (s : State). Holds g now c s done.after) left
          (holds_inside g now c state d done.after after full opened setup same inside present tables (done.same not ∙ stand));
      reaches = reached;
    };
    cause = caused;
  }

  done_outside : state.inside ≡ false → CommitsAll g now c.defs c.trx done.after → Answered g now c state statement d said
  done_outside outside k = record {
    full = full;
    answer_is = answer;
    comes = record {
      after = k.after;
      holds = subst (λ (s : State). Holds g now c s k.after) left
          (holds_outside g now c state d k.after after full k.opened k.none setup same outside present (rest outside) (k.same ∙ tables) (k.committed_are ∙ sym k.same));
      reaches = reaches_on (g.shape now).pages d done.after k.after reached k.reaches;
    };
    cause = λ filled. fills_later (g.shape now).pages d done.after k.after (caused filled) k.reaches;
  }

  pub answered_done : (inside : Bool) → state.inside ≡ inside → (inside ≡ true → is_create statement ≡ false) → Settles g now c.defs c.trx inside done.after → Answered g now c state statement d said
  answered_done true inside not opened = done_inside inside (not refl) opened
  answered_done false inside not k = done_outside inside k

-- one that is done, whatever room there is
pub answered_ok : {S : Type 0} (g : Ghosts S) (now : S) (c : ConnectionState) (state : State) (d : Database) (said : Reply) (s : Statement) → said ≡ (does state.present s).reply → Comes g now c (after_statement state s) d → Answered g now c state s d said
answered_ok g now c state d said s is comes = record { full = false; answer_is = is; comes = comes; cause = λ filled. no_way (sym filled) }

-- ---- a transaction ends

-- what is known of a fault, where a call ends with it
pub err_sound : {T E : Type 0} (P : E → Type 0) (result : Result T E) (e from : E) → result ≡ Err from → from ≡ e → P e → IfErr result P
err_sound P result e from is same sound = subst (λ (r : Result _ _). IfErr r P) (sym (is ∙ ap Err same)) sound

module _ {S : Type 0} (g : Ghosts S) (old : S) (defs : List TableDef) (trx : TrxState) (d : Database) (opened : IsOpen g old defs trx d) where
  abbrev pub chains_open : List Chain
  chains_open = alone trx.session opened.chain

  one_open : OneChain trx.session opened.chain d
  one_open = alone_one (g.shape old).pages (g.contents old) d trx.session opened.chain opened.slot opened.kept

  pub can_commit : CanCommit (g.shape old).pages (g.contents old) chains_open trx.session opened.chain d
  can_commit = record { kept = opened.kept; own = one_open.own; disjoint = one_open.disjoint }

module _ {S : Type 0} (g : Ghosts S) (old new : S) (defs : List TableDef) (trx trx_now : TrxState) (d : Database) (opened : IsOpen g old defs trx d) (pages : (g.shape new).pages ≡ (g.shape old).pages) (ended : HasCommitted trx trx_now) where
  abbrev chains : List Chain
  chains = alone trx.session opened.chain

  one : OneChain trx.session opened.chain d
  one = one_open g old defs trx d opened

  pub commits_all : DidCommit (g.shape old).pages (g.contents new) chains trx.session opened.chain d → CommitsAll g new defs trx_now d
  commits_all k =
      let n = (g.shape new).pages in
      let free : ChainedFile (g.shape old).pages (g.contents new) k.after no_chains = subst (λ (l : List Chain). ChainedFile (g.shape old).pages (g.contents new) k.after l) (one.next [] ∙ alone_none trx.session) k.kept in
      let kept_now : ChainedFile n (g.contents new) k.after no_chains = subst (λ (m : ℕ). ChainedFile m (g.contents new) k.after no_chains) (sym pages) free in
      let none : k.after.images ≡ [] = none_chained n (g.contents new) k.after kept_now in
      record {
        after = k.after;
        opened = record {
          chain = [];
          kept = as_alone trx_now.session n (g.contents new) k.after kept_now;
          slot = subst (λ (m : ℕ). m < undo_slots) (sym ended.session) opened.slot;
          defs_are = ap (map (λ (t : FileTable). t.def)) k.tables ∙ opened.defs_are;
          noted = ended.count ∙ sym (ap (λ (l : List FileImage). length l) none);
          written = subst (λ (keys : List RowKey). AreWritten keys k.after) (sym ended.keys) (commit_adds_none (g.shape old).pages (g.contents new) chains trx.session opened.chain trx.keys d opened.written k);
        };
        none = refl;
        same = k.finishing.now;
        committed_are = ap (λ (l : List FileImage). after_changes (tables_of k.after) (map back_of l)) none ∙ k.finishing.now;
        reaches = reaches_more n d d k.after (reaches_self n d) k.step (g.contents new, no_chains, kept_now);
      }

pub comes_settled : {S : Type 0} (g : Ghosts S) (now : S) (defs : List TableDef) (trx : TrxState) (d : Database) → CommitsAll g now defs trx d → Comes g now (record { inside = false; defs = defs; trx = trx }) (settled (tables_of d)) d
comes_settled g now defs trx d k = record {
  after = k.after;
  holds = record {
    opened = k.opened;
    outside = λ _. k.none;
    setup = λ _. refl;
    inside = refl;
    present = k.same;
    committed_are = k.committed_are;
  };
  reaches = k.reaches;
}

pub comes_back : {S : Type 0} (g : Ghosts S) (mid now : S) (defs : List TableDef) (trx : TrxState) (c : ConnectionState) (state : State) (d : Database) → committed d ≡ state.committed → (b : GoesBack g mid defs trx d) → (g.shape now).pages ≡ (g.shape mid).pages
    → Comes g now c (settled (tables_of b.after)) b.after → Comes g now c (rolled_back state) d
comes_back g mid now defs trx c state d stand b pages comes =
    let n = (g.shape now).pages in
    let k : Comes g now c (settled state.committed) b.after = subst (λ (tables : List Table). Comes g now c (settled tables) b.after) (b.back ∙ stand) comes in
    record { after = k.after; holds = k.holds; reaches = reaches_on n d b.after k.after (subst (λ (m : ℕ). Reaches m d b.after) (sym pages) b.reaches) k.reaches }
