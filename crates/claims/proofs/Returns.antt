-- Every open, load, reset and crossing has an answer and columns with what its callers learn, and every list of them answers and an engine at its end: the relations that
-- the contracts cite are equations for the answer and for each column, and what a search leaves in scratch is built from the state it settles in. Assumes nothing.
use mathlib.Core.Path.{◌≡◌, refl, ap, ◌∙◌, subst}
use mathlib.Core.Bool.{Bool, true, false, cond, ◌&&◌}
use mathlib.Core.List.{List, [], ◌∷◌, ◌++◌}
use Prim.Native.Nat.{ℕ, ◌+◌}
use native.Mathlib.Omega.{arith}
use lib.ListN.{length, take, drop}
use lib.Seq.{drop_at}
use lib.Dec.{leb, eqb}
use borrow.Author.Tests.{eqb-true, eqb-false}
use lib.IntN.{ℤ}
use contract.Lifetimes.{Lfts}
use borrow.Fn.Kinds.{Dens, ended_of}
use denote.Triple.Clauses.{AtExit}
use denote.Ref.{Bor, MutBor}
use Rattle.columns.specs.Lists.{each, over, after}
use Rattle.columns.specs.Limits.{weight_limit}
use Rattle.columns.specs.Questions.{all, every, all_below, all_within}
use Rattle.columns_pairs.specs.Pairs.{ends_differ, pairs_apart}
use Rattle.columns_neighbors.specs.Sound.{ends_in_range, graph_sound}
use Rattle.columns_room.specs.Room.{three_long}
use Rattle.std.specs.Prelude.{Result, Ok, Err}
use Rattle.columns.specs.declared.refusal.Refusal.{Refusal}
use Rattle.columns.specs.declared.refusal.Refusal.TheVariants as refusal
use Rattle.columns.specs.Refusals.{question_of}
use Rattle.columns_answers.specs.Said.{said, Answered}
use Rattle.columns_answers.proofs.Said.{accepts-of, refuses-of, accepted-of, refusal-of, values_of, refused-of}
use Rattle.columns_neighbors.specs.Lists.{lists}
use Rattle.engine_log.specs.Load.{erased, given}
use Rattle.engine_log.proofs.Loads.{loaded-length, named-length, earlier-length, undone-length}
use Rattle.engine_columns.specs.declared.EngineCounts.{EngineCounts}
use Rattle.engine_columns.specs.Records.{Engine, engine, counts, no_counts, kept}
use Rattle.engine_columns.specs.Calls.{Call, load_erasures, load_weights, reset, engine_refusal, loaded_by, changed, Modified}
use Rattle.engine_columns.specs.Questions.{columns_long, columns_sound, engine_long, engine_sound}
use Rattle.engine_columns.specs.Open.{GraphColumns, graph_columns, open_refusal}
use Rattle.engine_tally.specs.Tally.{Lengths, lengths_of}
use Rattle.engine_walks.specs.Graph.{Graph, edges}
use Rattle.engine_walks.specs.Settling.{State, status_at, weight_at}
use Rattle.engine_walks.specs.Answers.{crossing, from_left, least_from_left}
use Rattle.query_relaxing.specs.Ready.{key_of}
use Rattle.query_questions.specs.Queries.{graph_in, weights_in}
use Rattle.query_questions.specs.Scratch.{ScratchColumns, scratch_of, scratch_fits, is_free, SearchAfter, ScratchAfter}
use Rattle.query_crossing_answer.specs.Crossing.{reply_number, is_joined, weight_found, crossing_refusal}
use Rattle.engine_calls.proofs.open.Kinds as open-kinds
use Rattle.engine_calls.proofs.load_erasures.Kinds as erasures-kinds
use Rattle.engine_calls.proofs.load_dynamic_weights.Kinds as weights-kinds
use Rattle.engine_calls.proofs.reset.Kinds as reset-kinds
use Rattle.query_crossings.proofs.crossing.Kinds as crossing-kinds
use Rattle.claims.specs.Listed.{ListedCall, CallArguments, modify_by, cross_with, listed_calls, modifies, crosses, own_lengths}
use Rattle.claims.specs.QueriesCalled.{CrossingReturned, crossing_returned}
use Rattle.claims.specs.Called.{OpenReturned, open_returned, Called, load_erasures_called, load_weights_called, reset_called, crossing_called, Calls, no_call, modified_then, crossed_then}
use Rattle.claims.proofs.Refusing.{Named, all_met, asks}
use Rattle.claims.proofs.LeastKeys.{nodes, nodes-length, nodes-tree}
use Rattle.claims.proofs.Runs.{step_of, opened_of}

-- columns lent, with no lifetime to speak of: to be read, and to be written
abbrev pub ref : {A : Type 0} → A → Bor A
ref xs = record { ref_ptr = (0, 0); now = xs }

abbrev pub ref_mut : {A : Type 0} → A → MutBor A
ref_mut xs = record { ref_ptr = (0, 0); ghost_name = 0; now = xs }

abbrev six : Lfts 6
six = ([], ([], ([], ([], ([], ([], tt))))))

abbrev pub eight : Lfts 8
eight = ([], ([], six))

-- ---- open

-- the answer, where q is the number of the first question that is not met
abbrev answer_by : {A : Type 0} → Bool → Refusal → A → Result A Refusal
answer_by true r v = Ok v
answer_by false r v = Err r

says : {A : Type 0} (q : ℕ) (k : Named q) (v zeros : A) → Answered (said zeros (answer_by (eqb q 0) k.refusal v)) q v zeros
says {A} q k v zeros = either (eqb q 0) refl
  where
    either : (b : Bool) → eqb q 0 ≡ b → Answered (said zeros (answer_by b k.refusal v)) q v zeros
    either true e = accepted-of (eqb-true q 0 e)
    either false e = refusal-of k.refusal (k.names (eqb-false q 0 e))

open_named : (v e : ℕ) (h l : GraphColumns) → Named (open_refusal v e h l)
open_named v e h l = asks _ refusal.ShortColumn (asks _ refusal.UnsoundColumns all_met)

pub open_returns : (vertices edges : ℕ) (handed lent₀ : GraphColumns) → (r : Result EngineCounts Refusal) × (lent : GraphColumns) × OpenReturned vertices edges handed lent₀ r lent
open_returns v e h l =
    let q = open_refusal v e h l in
    let a : Dens eight open-kinds.ps = (v, (e, (ref h.ends_a, (ref h.ends_b, (ref h.weights, (ref h.boundary, (ref_mut l.ends_a, (ref_mut l.ends_b, (ref_mut l.weights, (ref_mut l.boundary, tt)))))))))) in
    let s : AtExit (ended_of 8 open-kinds.ps open-kinds.r) eight = (v, (e, (ref h.ends_a, (ref h.ends_b, (ref h.weights, (ref h.boundary, (ref_mut (after q (take e h.ends_a) l.ends_a), (ref_mut (after q (take e h.ends_b) l.ends_b), (ref_mut (after q (take e h.weights) l.weights), (ref_mut (after q (take v h.boundary) l.boundary), tt)))))))))) in
    let k = open_named v e h l in
    (_, _, open_returned eight a (answer_by (eqb q 0) k.refusal (counts v e 0)) s (record { answers = says q k (counts v e 0) no_counts; ends_a_after = refl; ends_b_after = refl; weights_after = refl; boundary_after = refl }))

-- a graph of two vertices, left and right, and one edge
abbrev pub one_edge : GraphColumns
one_edge = graph_columns (0 ∷ []) (1 ∷ []) (5 ∷ []) (1 ∷ 2 ∷ [])

pub one_edge_opened : OpenReturned 2 1 one_edge one_edge (Ok (counts 2 1 0)) one_edge
unfolding all every ends_differ pairs_apart ends_in_range graph_sound three_long columns_long columns_sound
one_edge_opened =
    let a : Dens eight open-kinds.ps = (2, (1, (ref (0 ∷ []), (ref (1 ∷ []), (ref (5 ∷ []), (ref (1 ∷ 2 ∷ []), (ref_mut (0 ∷ []), (ref_mut (1 ∷ []), (ref_mut (5 ∷ []), (ref_mut (1 ∷ 2 ∷ []), tt)))))))))) in
    let s : AtExit (ended_of 8 open-kinds.ps open-kinds.r) eight = a in
    open_returned eight a (Ok (counts 2 1 0)) s (record { answers = accepted-of refl; ends_a_after = refl; ends_b_after = refl; weights_after = refl; boundary_after = refl })

-- an open whose questions are met answers the counts
pub accepted_open : (v e : ℕ) (h l : GraphColumns) (r : Result EngineCounts Refusal) (o : GraphColumns) → OpenReturned v e h l r o → open_refusal v e h l ≡ 0 → r ≡ Ok (counts v e 0)
accepted_open v e h l r o x = there r (opened_of v e h l r o x).answers
  where
    there : (y : Result EngineCounts Refusal) → Answered (said no_counts y) (open_refusal v e h l) (counts v e 0) no_counts → open_refusal v e h l ≡ 0 → y ≡ Ok (counts v e 0)
    there (Ok c) a z = ap Ok (values_of a z)
    there (Err n) a z = absurd (refused-of a z)

-- ---- loads and reset

load_after : (b : Bool) (q : Refusal) (es : List ℕ) (x : ℕ → ℕ) (e : Engine)
    → engine (kept e.counts (answer_by b q (loaded_by es x e).counts)) e.ends_a e.ends_b (cond b (loaded_by es x e) e).weights e.boundary
    (cond b (loaded_by es x e) e).log_edges (cond b (loaded_by es x e) e).log_weights
    ≡ cond b (loaded_by es x e) e
load_after true q es x e = refl
load_after false q es x e = refl

reset_after : (b : Bool) (q : Refusal) (e : Engine)
    → engine (kept e.counts (answer_by b q (changed reset e).counts)) e.ends_a e.ends_b (cond b (changed reset e) e).weights e.boundary e.log_edges e.log_weights
    ≡ cond b (changed reset e) e
reset_after true q e = refl
reset_after false q e = refl

call_named : (call : Call) (e : Engine) → Named (engine_refusal call e)
call_named (load_erasures es) e =
    asks (engine_long (length es) e) refusal.ShortColumn
    (asks (engine_sound e) refusal.UnsoundColumns
    (asks (eqb e.counts.entries 0) refusal.LogNotEmpty
    (asks (all_below e.counts.edges es) refusal.NumberOutOfRange all_met)))
call_named (load_weights es xs) e =
    asks (eqb (length es) (length xs)) refusal.ShortColumn
    (asks (engine_long (length es) e) refusal.ShortColumn
    (asks (engine_sound e) refusal.UnsoundColumns
    (asks (eqb e.counts.entries 0) refusal.LogNotEmpty
    (asks (all_below e.counts.edges es) refusal.NumberOutOfRange
    (asks (all_within weight_limit xs) refusal.BadWeight all_met)))))
call_named reset e = asks (engine_long 0 e) refusal.ShortColumn (asks (engine_sound e) refusal.UnsoundColumns all_met)

pub modifying_returns : (call : Call) (e₀ : Engine) → (r : Result EngineCounts Refusal) × (e : Engine) × Called call e₀ r e
modifying_returns (load_erasures es) e =
    let κs : Lfts 7 = ([], six) in
    let q = engine_refusal (load_erasures es) e in
    let k = call_named (load_erasures es) e in
    let x = cond (eqb q 0) (loaded_by es erased e) e in
    let a : Dens κs erasures-kinds.ps = (e.counts, (ref e.ends_a, (ref e.ends_b, (ref_mut e.weights, (ref e.boundary, (ref_mut e.log_edges, (ref_mut e.log_weights, (ref es, tt)))))))) in
    let s : AtExit (ended_of 7 erasures-kinds.ps erasures-kinds.r) κs = (e.counts, (ref e.ends_a, (ref e.ends_b, (ref_mut x.weights, (ref e.boundary, (ref_mut x.log_edges, (ref_mut x.log_weights, (ref es, tt)))))))) in
    (_, _, load_erasures_called κs a (answer_by (eqb q 0) k.refusal (loaded_by es erased e).counts) s (record { answers = says q k _ no_counts; engine_after = load_after (eqb q 0) k.refusal es erased e }))
modifying_returns (load_weights es xs) e =
    let q = engine_refusal (load_weights es xs) e in
    let k = call_named (load_weights es xs) e in
    let x = cond (eqb q 0) (loaded_by es (given xs) e) e in
    let a : Dens eight weights-kinds.ps = (e.counts, (ref e.ends_a, (ref e.ends_b, (ref_mut e.weights, (ref e.boundary, (ref_mut e.log_edges, (ref_mut e.log_weights, (ref es, (ref xs, tt))))))))) in
    let s : AtExit (ended_of 8 weights-kinds.ps weights-kinds.r) eight = (e.counts, (ref e.ends_a, (ref e.ends_b, (ref_mut x.weights, (ref e.boundary, (ref_mut x.log_edges, (ref_mut x.log_weights, (ref es, (ref xs, tt))))))))) in
    (_, _, load_weights_called eight a (answer_by (eqb q 0) k.refusal (loaded_by es (given xs) e).counts) s (record { answers = says q k _ no_counts; engine_after = load_after (eqb q 0) k.refusal es (given xs) e }))
modifying_returns reset e =
    let q = engine_refusal reset e in
    let k = call_named reset e in
    let x = cond (eqb q 0) (changed reset e) e in
    let a : Dens six reset-kinds.ps = (e.counts, (ref e.ends_a, (ref e.ends_b, (ref_mut e.weights, (ref e.boundary, (ref e.log_edges, (ref e.log_weights, tt))))))) in
    let s : AtExit (ended_of 6 reset-kinds.ps reset-kinds.r) six = (e.counts, (ref e.ends_a, (ref e.ends_b, (ref_mut x.weights, (ref e.boundary, (ref e.log_edges, (ref e.log_weights, tt))))))) in
    (_, _, reset_called six a (answer_by (eqb q 0) k.refusal (changed reset e).counts) s (record { answers = says q k _ no_counts; engine_after = reset_after (eqb q 0) k.refusal e }))

-- no load and no reset changes a length
lengths_changed : (call : Call) (e : Engine) → lengths_of (changed call e) ≡ lengths_of e
lengths_changed (load_erasures es) e = simp (loaded-length, named-length, earlier-length)
lengths_changed (load_weights es xs) e = simp (loaded-length, named-length, earlier-length)
lengths_changed reset e = simp undone-length

lengths_kept : (call : Call) (e : Engine) (r : Result EngineCounts Refusal) (e₁ : Engine) → Modified call e r e₁ → lengths_of e₁ ≡ lengths_of e
lengths_kept call e r e₁ m = ap lengths_of m.engine_after ∙ either (eqb (engine_refusal call e) 0)
  where
    either : (b : Bool) → lengths_of (cond b (changed call e) e) ≡ lengths_of e
    either true = lengths_changed call e
    either false = refl

-- ---- a crossing

module _ (g : Graph) (s : State) (scratch₀ : ScratchColumns) where
  abbrev leaves : List ℕ
  leaves = over (each g.vertices (λ v. key_of (status_at s v) (weight_at s v) v)) scratch₀.leaf

  -- what a search that settles in this state may leave
  searched : ScratchColumns
  searched = scratch_of (over (lists g.ends_a g.ends_b (edges g) g.vertices) scratch₀.neighbor_numbers)
      (over (each g.vertices (λ v. length (lists g.ends_a g.ends_b (edges g) (v + 1)))) scratch₀.list_ends)
      (over s.status scratch₀.status) (over s.weight scratch₀.weight) (over s.previous scratch₀.previous)
      (nodes leaves g.vertices ++ drop g.vertices scratch₀.node) leaves

  searches : SearchAfter g s scratch₀ searched
  unfolding searched
  searches = record {
    neighbor_numbers_after = refl;
    list_ends_after = refl;
    status_after = refl;
    weight_after = refl;
    previous_after = refl;
    leaf_after = refl;
    node_past = drop_at (nodes leaves g.vertices) (drop g.vertices scratch₀.node) g.vertices (nodes-length leaves g.vertices);
    node_tree = nodes-tree leaves g.vertices (drop g.vertices scratch₀.node);
  }

  scratchBy : ℕ → ScratchColumns
  scratchBy number = cond (is_free number) searched scratch₀

  scratch_after : (number : ℕ) → ScratchAfter number g s scratch₀ (scratchBy number)
  unfolding scratchBy
  scratch_after number = record { free = free (is_free number); kept = kept-so (is_free number) }
    where
      free : (b : Bool) → b ≡ true → SearchAfter g s scratch₀ (cond b searched scratch₀)
      free true e = searches
      free false e = absurd (let z : ◌≡◌ {A = ℕ} 0 1 = cc in omega arith)

      kept-so : (b : Bool) → b ≡ false → cond b searched scratch₀ ≡ scratch₀
      kept-so true e = absurd (let z : ◌≡◌ {A = ℕ} 0 1 = cc in omega arith)
      kept-so false e = refl

crossing_named : (e : Engine) (scratch : Bool) (weights : ℕ) → Named (crossing_refusal e scratch weights)
crossing_named e scratch weights =
    asks (engine_long 0 e && (leb e.counts.vertices weights && scratch)) refusal.ShortColumn
    (asks (engine_sound e) refusal.UnsoundColumns (asks (is_joined (crossing (graph_in e) (weights_in e))) refusal.NoCrossing all_met))

pub crossing_returns : (e : Engine) (weights₀ : List ℤ) (scratch₀ : ScratchColumns)
    → (r : Result ℕ Refusal) × (weights : List ℤ) × (scratch : ScratchColumns) × CrossingReturned e r weights₀ weights scratch₀ scratch
crossing_returns e weights₀ scratch₀ =
    let κs : Lfts 14 = ([], ([], ([], ([], ([], ([], eight)))))) in
    let g = graph_in e in
    let w = weights_in e in
    let q = crossing_refusal e (scratch_fits e.counts scratch₀) (length weights₀) in
    let k = crossing_named e (scratch_fits e.counts scratch₀) (length weights₀) in
    let r = answer_by (eqb q 0) k.refusal (weight_found (crossing g w)) in
    let weights = after q (least_from_left g w) weights₀ in
    let c = scratchBy g (from_left g w) scratch₀ (reply_number r) in
    let a : Dens κs crossing-kinds.ps = (
      e.counts,
      (
        ref e.ends_a,
        (
          ref e.ends_b,
          (
            ref e.weights,
            (
              ref e.boundary,
              (
                ref e.log_edges,
                (
                  ref e.log_weights,
                  (
                    ref_mut weights₀,
                    (ref_mut scratch₀.neighbor_numbers, (ref_mut scratch₀.list_ends, (ref_mut scratch₀.status, (ref_mut scratch₀.weight, (ref_mut scratch₀.previous, (ref_mut scratch₀.node, (ref_mut scratch₀.leaf, tt))))))),
                  ),
                ),
              ),
            ),
          ),
        ),
      ),
    ) in
    let s : AtExit (ended_of 14 crossing-kinds.ps crossing-kinds.r) κs = (
      e.counts,
      (
        ref e.ends_a,
        (
          ref e.ends_b,
          (
            ref e.weights,
            (
              ref e.boundary,
              (
                ref e.log_edges,
                (
                  ref e.log_weights,
                  (
                    ref_mut weights,
                    (ref_mut c.neighbor_numbers, (ref_mut c.list_ends, (ref_mut c.status, (ref_mut c.weight, (ref_mut c.previous, (ref_mut c.node, (ref_mut c.leaf, tt))))))),
                  ),
                ),
              ),
            ),
          ),
        ),
      ),
    ) in
    (_, _, _, crossing_returned κs a r s (record { answers = says q k _ 0; weights_after = refl; scratch_after = scratch_after g (from_left g w) scratch₀ (reply_number r) }))

-- ---- lists

pub list_returns : (list : List CallArguments) (k : Lengths) (e : Engine) → lengths_of e ≡ k
    → (answers : List ℕ) × (at_end : Engine) × Calls e (listed_calls k list) answers at_end
list_returns [] k e same = ([], e, no_call)
list_returns (modify_by call ∷ list) k e same =
    let (r, e₁, called) = modifying_returns call e in
    let (ns, e₂, rest) = list_returns list k e₁ (lengths_kept call e r e₁ (step_of call e r e₁ called) ∙ same) in
    (_, _, subst (λ l. Calls e (modifies (record { call = call; lent = l }) ∷ listed_calls k list) (question_of r ∷ ns) e₂) same (modified_then call r called rest))
list_returns (cross_with weights₀ scratch₀ ∷ list) k e same =
    let (r, weights, scratch, returned) = crossing_returns e weights₀ scratch₀ in
    let (ns, e₂, rest) = list_returns list k e same in (
      _,
      _,
      subst (λ l. Calls e (crosses l (own_lengths weights₀ scratch₀) ∷ listed_calls k list) (reply_number r ∷ ns) e₂) same
          (crossed_then (own_lengths weights₀ scratch₀) r weights₀ weights (crossing_called scratch₀ scratch returned) rest),
    )

pub lengths_at_end : (e : Engine) (cs : List ListedCall) (ns : List ℕ) (e₂ : Engine) → Calls e cs ns e₂ → lengths_of e₂ ≡ lengths_of e
lengths_at_end e cs ns e₂ no_call = refl
lengths_at_end e cs ns e₂ (modified_then {e₁ = e₁} {cs = ds} {ns = ms} call r c rest) = lengths_at_end e₁ ds ms e₂ rest ∙ lengths_kept call e r e₁ (step_of call e r e₁ c)
lengths_at_end e cs ns e₂ (crossed_then {cs = ds} {ns = ms} o r column₀ column c rest) = lengths_at_end e ds ms e₂ rest
