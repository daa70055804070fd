-- Every kind, d and rounds that questions 2 to 5 accept have a code: `create_code` on columns as long as the code's counts. Assumes nothing.
use Rattle.std.specs.Prelude.{Ok}
use mathlib.Core.Path.{◌≡◌, refl, ap, ◌∙◌}
use mathlib.Core.Bool.{true}
use mathlib.Core.List.{List, []}
use Prim.Native.Nat.{ℕ, ◌*◌, min}
use native.Mathlib.Nat.{le_refl, min-eq_left}
use borrow.Author.Tests.{le-leb}
use lib.ListN.{replicate, length-replicate}
use contract.Lifetimes.{Lfts}
use borrow.Fn.Kinds.{Dens, ended_of}
use denote.Triple.Clauses.{AtExit}
use Rattle.columns.specs.Lists.{after}
use Rattle.columns.specs.Places.{zero_float}
use Rattle.columns.specs.Questions.{ask}
use Rattle.columns.proofs.Tests.{both_and}
use Rattle.columns_answers.proofs.Said.{accepts-of}
use Rattle.codes_layers.specs.Counts.{vertex_num, edge_num}
use Rattle.codes_layers.specs.Accepts.{code_refusal, Buildable}
use Rattle.codes_calls.specs.Columns.{CodeColumns, shortest, vertex_room, edge_room, long_enough}
use Rattle.codes_calls.specs.CreateCode.{code_counts, create_refusal, refusal_in, new_columns}
use Rattle.codes_calls.proofs.create.create_code.Kinds as create-kinds
use Rattle.claims.specs.BuildersCalled.{CreateReturned, create_returned, CodeBuilt, create_called}
use Rattle.claims.proofs.Returns.{ref_mut, eight}

shortest_same : (n : ℕ) → shortest n n n n n n ≡ n
shortest_same n = let m : min n n ≡ n = min-eq_left (le_refl n) in ap (min n) (ap (min n) (ap (min n) (ap (min n) m ∙ m) ∙ m) ∙ m) ∙ m

module _ (kind d rounds : ℕ) (ok : Buildable kind d rounds) where
  abbrev v : ℕ
  v = vertex_num kind d rounds

  abbrev e : ℕ
  e = edge_num kind d rounds

  -- columns as long as the counts
  abbrev lent : CodeColumns
  lent = record {
    ends_a = replicate e 0;
    ends_b = replicate e 0;
    p = replicate e zero_float;
    pe = replicate e zero_float;
    half_weight = replicate e 0;
    erasure = replicate e 0;
    pos_i = replicate v zero_float;
    pos_j = replicate v zero_float;
    pos_t = replicate v zero_float;
    boundary = replicate v 0;
    defect = replicate v 0;
    list_lengths = replicate v 0;
    neighbor_numbers = replicate (2 * e) 0;
  }

  vertex_room_holds : vertex_room lent ≡ v
  vertex_room_holds = let f = length-replicate v zero_float in let n = length-replicate {A = ℕ} v 0 in (λ i. shortest (f i) (f i) (f i) (n i) (n i) (n i)) ∙ shortest_same v

  edge_room_holds : edge_room lent ≡ e
  edge_room_holds = let f = length-replicate e zero_float in let n = length-replicate {A = ℕ} e 0 in (λ i. shortest (n i) (n i) (f i) (f i) (n i) (n i)) ∙ shortest_same e

  long : long_enough v e v e (2 * e) ≡ true
  unfolding long_enough
  long = both_and (le-leb v v (le_refl v)) (both_and (le-leb e e (le_refl e)) (le-leb (2 * e) (2 * e) (le_refl (2 * e))))

  accepted : refusal_in kind d rounds lent ≡ 0
  unfolding create_refusal
  accepted =
      (λ i. code_refusal kind d rounds (ask (long_enough v e (vertex_room_holds i) (edge_room_holds i) (length-replicate {A = ℕ} (2 * e) 0 i)) 6 0))
      ∙ (λ i. code_refusal kind d rounds (ask (long i) 6 0))
      ∙ ok

  abbrev left : CodeColumns
  left =
      let q = refusal_in kind d rounds lent in
      let new = new_columns kind d rounds in
      record {
        ends_a = after q new.ends_a lent.ends_a;
        ends_b = after q new.ends_b lent.ends_b;
        p = after q new.p lent.p;
        pe = after q new.pe lent.pe;
        half_weight = after q new.half_weight lent.half_weight;
        erasure = after q new.erasure lent.erasure;
        pos_i = after q new.pos_i lent.pos_i;
        pos_j = after q new.pos_j lent.pos_j;
        pos_t = after q new.pos_t lent.pos_t;
        boundary = after q new.boundary lent.boundary;
        defect = after q new.defect lent.defect;
        list_lengths = after q new.list_lengths lent.list_lengths;
        neighbor_numbers = after q new.neighbor_numbers lent.neighbor_numbers;
      }

  abbrev thirteen : Lfts 13
  thirteen = ([], ([], ([], ([], ([], eight)))))

  created : CreateReturned kind d rounds lent left (Ok (code_counts v e))
  created =
      let a : Dens thirteen create-kinds.ps = (kind, (d, (rounds, (ref_mut lent.ends_a, (ref_mut lent.ends_b, (ref_mut lent.p, (ref_mut lent.pe, (ref_mut lent.half_weight, (ref_mut lent.erasure, (ref_mut lent.pos_i, (ref_mut lent.pos_j, (ref_mut lent.pos_t, (ref_mut lent.boundary, (ref_mut lent.defect, (ref_mut lent.list_lengths, (ref_mut lent.neighbor_numbers, tt)))))))))))))))) in
      let s : AtExit (ended_of 13 create-kinds.ps create-kinds.r) thirteen = (kind, (d, (rounds, (ref_mut left.ends_a, (ref_mut left.ends_b, (ref_mut left.p, (ref_mut left.pe, (ref_mut left.half_weight, (ref_mut left.erasure, (ref_mut left.pos_i, (ref_mut left.pos_j, (ref_mut left.pos_t, (ref_mut left.boundary, (ref_mut left.defect, (ref_mut left.list_lengths, (ref_mut left.neighbor_numbers, tt)))))))))))))))) in
      create_returned thirteen a (Ok (code_counts v e)) s (record {
        answers = accepts-of accepted;
        columns_after = record {
          ends_a_after = refl;
          ends_b_after = refl;
          p_after = refl;
          pe_after = refl;
          half_weight_after = refl;
          erasure_after = refl;
          pos_i_after = refl;
          pos_j_after = refl;
          pos_t_after = refl;
          boundary_after = refl;
          defect_after = refl;
          list_lengths_after = refl;
          neighbor_numbers_after = refl;
        };
      })

  pub some_code : (vertices : ℕ) × (edges : ℕ) × (ends_a : List ℕ) × (ends_b : List ℕ) × (boundary : List ℕ) × CodeBuilt kind d rounds vertices edges ends_a ends_b boundary
  some_code = (_, _, _, _, _, create_called v e created)
