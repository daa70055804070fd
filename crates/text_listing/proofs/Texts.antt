-- The text of a built code, from its columns. Assumes nothing.
use mathlib.Core.Path.{◌≡◌, refl, sym, ap, ◌∙◌, subst}
use mathlib.Core.List.{List, [], ◌∷◌, ◌++◌}
use mathlib.Core.Option.{Option, some, none}
use Prim.Native.Nat.{ℕ, ◌≤◌, ◌<◌}
use native.Mathlib.Omega.{arith}
use lib.ListN.{length, get_or, take}
use lib.Seq.{get_or-take}
use lib.Ieee.{Float}
use Rattle.columns.specs.Lists.{joined}
use Rattle.columns.proofs.Counting.{joined_same}
use Rattle.codes_writers.specs.Edges.{firsts, seconds, boundaries}
use Rattle.codes_layers.specs.Codes.{edges_of, vertices_of}
use Rattle.codes_layers.specs.Counts.{vertex_num, edge_num}
use Rattle.text_numbers.specs.Text.{ended, vertex_line, edge_line, graph_line, crossing_line, vertex_lines, edge_lines, listing, refusal_line}
use Rattle.text_numbers.specs.Steps.{Put}
use Rattle.std.specs.Prelude.{Result, Ok, Err}
use Rattle.columns.specs.declared.refusal.Refusal.{Refusal}
use Rattle.columns.specs.Refusals.{number}
use Rattle.columns.specs.Questions.{ask}
use Rattle.columns_answers.specs.Said.{said, Answered}
use Rattle.query_crossing_answer.specs.Crossing.{is_joined, weight_found}
use Rattle.query_crossing_answer.proofs.Cases.{crossed_case, refused_case}
use Rattle.std.specs.Prelude.{Result, Ok, Err}
use Rattle.codes_calls.specs.declared.CodeCounts.{CodeCounts}
use Rattle.columns.specs.declared.refusal.Refusal.{Refusal}
use Rattle.columns.specs.Refusals.{number}
use Rattle.codes_calls.specs.Columns.{CodeColumns}
use Rattle.codes_calls.specs.NewCode.{NewCode}
use Rattle.text_listing.specs.Listing.{weights_of, crossing_of, with_crossing, listing_of, code_text}
use Rattle.text_listing.specs.Steps.{HoldsCode, HoldsWeights, Replied, reply_text, MadeHolds, made_text}
use Rattle.text_listing.proofs.Room.{CodeRoom}
use Rattle.text_listing.proofs.Holds.{refused-text, holds-code, accepted-text}

-- what stands in a column's first places
at : (n : ℕ) (column vs : List ℕ) → take n column ≡ vs → (k : ℕ) → k < n → get_or column k 0 ≡ get_or vs k 0
at n column vs e k h = sym (get_or-take n column k 0 h) ∙ ap (λ (l : List ℕ). get_or l k 0) e

module _ (kind d rounds : ℕ) (p : Float) (max v e : ℕ) (a b w m : List ℕ) (s : HoldsWeights kind d rounds p max v e a b w m) where
  same_vertices : vertex_lines v m ≡ vertex_lines (vertex_num kind d rounds) (boundaries (vertices_of kind d rounds))
  unfolding vertex_lines
  same_vertices =
      joined_same v (vertex_line m) (vertex_line (boundaries (vertices_of kind d rounds))) (λ k h. ap (λ (x : ℕ). 0x76 ∷ ended (k ∷ x ∷ [])) (at v m (boundaries (vertices_of kind d rounds)) s.in_m k h))
      ∙ ap (λ (n : ℕ). joined n (vertex_line (boundaries (vertices_of kind d rounds)))) s.vertices

  same_edges : edge_lines e a b w ≡ edge_lines (edge_num kind d rounds) (firsts (edges_of kind d rounds)) (seconds (edges_of kind d rounds)) (weights_of kind d rounds p max)
  unfolding edge_lines
  same_edges =
      joined_same e (edge_line a b w) (edge_line (firsts (edges_of kind d rounds)) (seconds (edges_of kind d rounds)) (weights_of kind d rounds p max)) (λ k h. λ i.
      0x65 ∷ ended (k ∷ at e a (firsts (edges_of kind d rounds)) s.in_a k h i ∷ at e b (seconds (edges_of kind d rounds)) s.in_b k h i ∷ at e w (weights_of kind d rounds p max) s.in_w k h i ∷ []))
      ∙ ap (λ (n : ℕ). joined n (edge_line (firsts (edges_of kind d rounds)) (seconds (edges_of kind d rounds)) (weights_of kind d rounds p max))) s.edges

  same-listing : (weight : ℕ) → listing kind d rounds v e m a b w weight
      ≡ listing kind d rounds (vertex_num kind d rounds) (edge_num kind d rounds) (boundaries (vertices_of kind d rounds)) (firsts (edges_of kind d rounds)) (seconds (edges_of kind d rounds)) (weights_of kind d rounds p max) weight
  unfolding listing
  same-listing weight = λ i. graph_line kind d rounds (s.vertices i) (s.edges i) ++ (same_vertices i ++ (same_edges i ++ crossing_line weight))

  by-crossing : (o : Option ℕ) (r : Result ℕ Refusal) → Answered (said 0 r) (ask (is_joined o) 18 0) (weight_found o) 0
      → reply_text kind d rounds v e m a b w r ≡ with_crossing kind d rounds (weights_of kind d rounds p max) o
  by-crossing (some weight) r q = ap (reply_text kind d rounds v e m a b w) (crossed_case r q refl) ∙ same-listing weight
  by-crossing none r q = let k = refused_case r q (λ h. absurd (omega arith)) in ap (reply_text kind d rounds v e m a b w) k.is ∙ ap refusal_line k.number_is

  pub reply-is : (r : Result ℕ Refusal) → Replied kind d rounds p max r → reply_text kind d rounds v e m a b w r ≡ listing_of kind d rounds p max
  unfolding listing_of
  reply-is r q = by-crossing (crossing_of kind d rounds p max) r q

-- ---- by what was answered

pub renamed : {xs ys t₀ t : List ℕ} {at r : ℕ} → xs ≡ ys → Put t₀ at xs t r → Put t₀ at ys t r
renamed {xs} {ys} {t₀} {t} {at} {r} e p = subst (λ (l : List ℕ). Put t₀ at l t r) e p

-- a text that is another has its room
pub fitting : {xs ys : List ℕ} {room : ℕ} → xs ≡ ys → length ys ≤ room → length xs ≤ room
fitting {xs} {ys} {room} e h = subst (λ (l : List ℕ). length l ≤ room) (sym e) h

module _ (kind d rounds v e : ℕ) (m a b w : List ℕ) (reply : Result ℕ Refusal) {room : ℕ} where
  pub refused-reply-fits : (n : Refusal) → reply ≡ Err n → length (reply_text kind d rounds v e m a b w reply) ≤ room → length (refusal_line (number n)) ≤ room
  refused-reply-fits n q h = fitting (ap (reply_text kind d rounds v e m a b w) (sym q)) h

  pub crossed-reply-fits : (weight : ℕ) → reply ≡ Ok weight → length (reply_text kind d rounds v e m a b w reply) ≤ room → length (listing kind d rounds v e m a b w weight) ≤ room
  crossed-reply-fits weight q h = fitting (ap (reply_text kind d rounds v e m a b w) (sym q)) h

module _ (kind d rounds v e : ℕ) (m a b w : List ℕ) (reply : Result ℕ Refusal) {t₀ t : List ℕ} {r : ℕ} where
  pub refused-reply : (n : Refusal) → Put t₀ 0 (refusal_line (number n)) t r → reply ≡ Err n → Put t₀ 0 (reply_text kind d rounds v e m a b w reply) t r
  refused-reply n p q = renamed (ap (reply_text kind d rounds v e m a b w) (sym q)) p

  pub crossed-reply : (weight : ℕ) → Put t₀ 0 (listing kind d rounds v e m a b w weight) t r → reply ≡ Ok weight → Put t₀ 0 (reply_text kind d rounds v e m a b w reply) t r
  crossed-reply weight p q = renamed (ap (reply_text kind d rounds v e m a b w) (sym q)) p

  pub listed-reply : (p : Float) (max : ℕ) → HoldsWeights kind d rounds p max v e a b w m → Replied kind d rounds p max reply
      → Put t₀ 0 (reply_text kind d rounds v e m a b w reply) t r → Put t₀ 0 (listing_of kind d rounds p max) t r
  listed-reply p max s q x = renamed (reply-is kind d rounds p max v e a b w m s reply q) x

module _ (kind d rounds : ℕ) (p : Float) (max : ℕ) (lent back : CodeColumns) (room : CodeRoom lent) where
  pub made_holds : (answer : Result CodeCounts Refusal) → NewCode kind d rounds p max lent back answer → MadeHolds kind d rounds p max back.ends_a back.ends_b back.half_weight back.boundary answer
  made_holds (Ok counts) c = holds-code kind d rounds p max lent back room counts.vertices counts.edges c
  made_holds (Err n) c = tt

  made-text : (answer : Result CodeCounts Refusal) → NewCode kind d rounds p max lent back answer → made_text kind d rounds p max answer ≡ code_text kind d rounds p max
  made-text (Ok counts) c = accepted-text kind d rounds p max lent back room counts.vertices counts.edges c
  made-text (Err n) c = refused-text kind d rounds p max lent back room n c

  pub made-fits : (answer : Result CodeCounts Refusal) → NewCode kind d rounds p max lent back answer → {n : ℕ} → length (code_text kind d rounds p max) ≤ n → length (made_text kind d rounds p max answer) ≤ n
  made-fits answer c h = fitting (made-text answer c) h

  pub made-put : (answer : Result CodeCounts Refusal) → NewCode kind d rounds p max lent back answer → {t₀ t : List ℕ} {r : ℕ} → Put t₀ 0 (made_text kind d rounds p max answer) t r → Put t₀ 0 (code_text kind d rounds p max) t r
  made-put answer c x = renamed (made-text answer c) x
