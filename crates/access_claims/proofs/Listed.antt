-- A getter's list holds the numbers whose byte is set, and a setter sets the bytes of the numbers that it was handed. Assumes nothing.
use mathlib.Core.Path.{◌≡◌, refl, sym, ap, ◌∙◌, subst}
use mathlib.Core.Bool.{Bool, true, false, ◌&&◌, ◌||◌, not, cond, false≢true, or-true}
use mathlib.Core.List.{List, [], ◌∷◌}
use Prim.Native.Nat.{ℕ, zero, suc, ◌≤◌, ◌<◌}
use native.Mathlib.Decide.{ℕ_discrete}
use native.Mathlib.Omega.{arith}
use lib.ListN.{length, get_or, take, length-take}
use lib.Seq.{get_or-take}
use lib.Dec.{eqb, leb}
use borrow.Author.Tests.{eq-eqb, ne_eqb, le-leb}
use Rattle.columns.specs.Lists.{each, over}
use Rattle.columns.specs.Questions.{ask, vertex_count_sound, edge_count_sound, marks_sound}
use Rattle.columns.specs.declared.refusal.Refusal.{Refusal}
use Rattle.columns.proofs.Columns.{over-in, length_over, after-accepted}
use Rattle.columns.proofs.Counting.{length-each, getD-each}
use Rattle.columns.proofs.Refusals.{met, goes_on, asks, ands}
use Rattle.columns.proofs.Tests.{both_and, at_within}
use Rattle.std.specs.Prelude.{Result, Ok}
use Rattle.columns_answers.specs.declared.SyndromeLengths.{SyndromeLengths}
use Rattle.columns_answers.specs.Counts.{syndrome_lengths}
use Rattle.columns_answers.proofs.Said.{zero_of, values_of}
use Rattle.columns_room.specs.Room.{two_long}
use Rattle.columns_marks.specs.Marks.{is_set, listed, names, marks}
use Rattle.columns_marks.proofs.Listing.{chosen_at, chosen-has, listed_list}
use Rattle.access_calls.specs.Calls.{Syndrome, set_marks_refusal, SetMarks, counts_sound, set_syndrome_refusal, SetSyndrome, get_marks_refusal, GotMarks, get_syndrome_refusal, GotSyndrome, Code, Initializer, initializer_refusal, GotInitializer}
use Rattle.access_calls.proofs.Refusals.{set_met, set-syndrome_met, get_met, get_syndrome_met, initializer_met}
use Rattle.access_claims.specs.AccessCalled.{DefectsGot, defects_got, ErasuresGot, erasures_got, SyndromeGot, syndrome_got, InitializerGot, initializer_got, DefectsSet, defects_set, ErasuresSet, erasures_set, SyndromeSet, syndrome_set}
use Rattle.access_claims.specs.Lists.{StandsIn, ByteSet, ListsBytes, GetterLists}
use Rattle.access_claims.specs.SetThenGet.{SameNumbers, SetThenGet}

-- ---- the list of the bytes that are set

-- what an accepted getter answers and leaves of one list
record Got (n : ℕ) (bytes list₀ list : List ℕ) (count : ℕ) : Type 0 where
  pub room : n ≤ length list₀
  pub count_is : count ≡ length (listed n bytes)
  pub list_is : list ≡ over (listed n bytes) list₀

not_zero : (x : ℕ) → is_set x ≡ true → x ≡ 0 → ⊥
not_zero x p e = false≢true (ap not (sym (eq-eqb x 0 e)) ∙ p)

module _ (n : ℕ) (bytes list₀ list : List ℕ) (count : ℕ) (g : Got n bytes list₀ list count) where
  at_place : (i : ℕ) → i < count → get_or list i 0 ≡ get_or (listed n bytes) i 0
  at_place i h = ap (λ (l : List ℕ). get_or l i 0) g.list_is ∙ over-in (listed n bytes) list₀ 0 i (omega (arith, g.count_is))

  stands_set : (k : ℕ) → StandsIn count list k → ByteSet n bytes k
  unfolding listed
  stands_set k (i, h, e) =
      let p = chosen_at (λ k. is_set (get_or bytes k 0)) n i (omega (arith, g.count_is)) in
      let q : get_or (listed n bytes) i 0 ≡ k = sym (at_place i h) ∙ e in
      (omega (arith, p.below), not_zero (get_or bytes k 0) (ap (λ (x : ℕ). is_set (get_or bytes x 0)) (sym q) ∙ p.passes))

  set-stands : (k : ℕ) → ByteSet n bytes k → StandsIn count list k
  unfolding listed
  set-stands k (h, f) =
      let (i, (l, q)) = chosen-has (λ k. is_set (get_or bytes k 0)) n k h (ap not (ne_eqb (get_or bytes k 0) 0 f)) in
      let in_count : i < count = omega (arith, g.count_is) in
      (i, in_count, at_place i in_count ∙ q)

  lists-bytes : ListsBytes n bytes list₀ list count
  lists-bytes = record {
    ascending = listed_list n count bytes list₀ list g.room g.count_is g.list_is;
    lists_set = λ k. (stands_set k, set-stands k);
  }

-- from what the calls promise
got_marks : {sound : Bool} {n : ℕ} {bytes list₀ list : List ℕ} {count : ℕ} → GotMarks sound n bytes list₀ list (Ok count) → Got n bytes list₀ list count
got_marks {sound} {n} {bytes} {list₀} {list} {count} g =
    let z = zero_of g.answers in
    record {
      room = (get_met sound n bytes list₀ z).1;
      count_is = values_of g.answers z;
      list_is = g.list_after ∙ after-accepted (get_marks_refusal sound n bytes list₀) (listed n bytes) list₀ z;
    }

got_defects : {v e : ℕ} {column lists₀ lists : Syndrome} {defects erasures : ℕ} → GotSyndrome v e column lists₀ lists (Ok (syndrome_lengths defects erasures))
    → Got v column.defects lists₀.defects lists.defects defects
got_defects {v} {e} {column} {lists₀} {lists} {defects} {erasures} g =
    let z = zero_of g.answers in
    record {
      room = (get_syndrome_met v e column lists₀ z).0.1;
      count_is = ap (λ (c : SyndromeLengths). c.defects) (values_of g.answers z);
      list_is = g.defects_after ∙ after-accepted (get_syndrome_refusal v e column lists₀) (listed v column.defects) lists₀.defects z;
    }

got_erasures : {v e : ℕ} {column lists₀ lists : Syndrome} {defects erasures : ℕ} → GotSyndrome v e column lists₀ lists (Ok (syndrome_lengths defects erasures))
    → Got e column.erasures lists₀.erasures lists.erasures erasures
got_erasures {v} {e} {column} {lists₀} {lists} {defects} {erasures} g =
    let z = zero_of g.answers in
    record {
      room = (get_syndrome_met v e column lists₀ z).1.1;
      count_is = ap (λ (c : SyndromeLengths). c.erasures) (values_of g.answers z);
      list_is = g.erasures_after ∙ after-accepted (get_syndrome_refusal v e column lists₀) (listed e column.erasures) lists₀.erasures z;
    }

got_virtual : {v e : ℕ} {c : Code} {to₀ to : Initializer} {count : ℕ} → GotInitializer v e c to₀ to (Ok count) → Got v c.boundary to₀.virtual to.virtual count
got_virtual {v} {e} {c} {to₀} {to} {count} g =
    let z = zero_of g.answers in
    record {
      room = (initializer_met v e c to₀ z).to_virtual;
      count_is = values_of g.answers z;
      list_is = g.virtual_after ∙ after-accepted (initializer_refusal v e c to₀) (listed v c.boundary) to₀.virtual z;
    }

-- from what their callers learn
defects_read : {v : ℕ} {defect list₀ list : List ℕ} {r : Result ℕ Refusal} → DefectsGot v defect list₀ list r → GotMarks (vertex_count_sound v) v defect list₀ list r
defects_read (defects_got κs a r s h) = h

erasures_read : {e : ℕ} {erasure list₀ list : List ℕ} {r : Result ℕ Refusal} → ErasuresGot e erasure list₀ list r → GotMarks (edge_count_sound e) e erasure list₀ list r
erasures_read (erasures_got κs a r s h) = h

syndrome_read : {v e : ℕ} {column lists₀ lists : Syndrome} {r : Result SyndromeLengths Refusal} → SyndromeGot v e column lists₀ lists r → GotSyndrome v e column lists₀ lists r
syndrome_read (syndrome_got κs a r s h) = h

virtual_read : {v : ℕ} {boundary list₀ list : List ℕ} {r : Result ℕ Refusal} → InitializerGot v boundary list₀ list r → (count : ℕ) → r ≡ Ok count → Got v boundary list₀ list count
virtual_read (initializer_got κs a r s h) count p = got_virtual (subst (GotInitializer _ _ _ _ _) p h)

pub getter_lists : GetterLists
getter_lists = record {
  defect_vertices = λ v defect list₀ list count c. lists-bytes v defect list₀ list count (got_marks (defects_read c));
  erasures = λ e erasure list₀ list count c. lists-bytes e erasure list₀ list count (got_marks (erasures_read c));
  syndrome_defects = λ v e column lists₀ lists defects erasures c. lists-bytes v column.defects lists₀.defects lists.defects defects (got_defects (syndrome_read c));
  syndrome_erasures = λ v e column lists₀ lists defects erasures c. lists-bytes e column.erasures lists₀.erasures lists.erasures erasures (got_erasures (syndrome_read c));
  virtual_vertices = λ v boundary list₀ list count c. lists-bytes v boundary list₀ list count (virtual_read c count refl);
}

-- ---- the bytes that a list sets

-- what an accepted setter leaves of one column
record Set (n : ℕ) (handed bytes : List ℕ) : Type 0 where
  pub below : (i : ℕ) → i < length handed → get_or handed i 0 < n
  pub long : n ≤ length bytes
  pub byte_is : (k : ℕ) → k < n → get_or bytes k 0 ≡ cond (names handed k) 1 0

marks_at : (n : ℕ) (handed bytes₀ bytes : List ℕ) → bytes ≡ over (marks n handed) bytes₀ → (k : ℕ) → k < n → get_or bytes k 0 ≡ cond (names handed k) 1 0
unfolding marks
marks_at n handed bytes₀ bytes p k h =
    let f : ℕ → ℕ = λ k. cond (names handed k) 1 0 in
    ap (λ (l : List ℕ). get_or l k 0) p ∙ over-in (each n f) bytes₀ 0 k (omega (arith, length-each n f)) ∙ getD-each n f 0 k h

marks_long : (n : ℕ) (handed bytes₀ bytes : List ℕ) → bytes ≡ over (marks n handed) bytes₀ → n ≤ length bytes₀ → n ≤ length bytes
unfolding marks
marks_long n handed bytes₀ bytes p h =
    let f : ℕ → ℕ = λ k. cond (names handed k) 1 0 in
    omega (arith, ap length p ∙ length_over (each n f) bytes₀ (omega (arith, length-each n f)))

names_stands : (xs : List ℕ) (k : ℕ) → names xs k ≡ true → StandsIn (length xs) xs k
unfolding names
names_stands [] k p = absurd (false≢true p)
names_stands (x ∷ xs) k p = elim (ℕ_discrete x k) [
  | yes e ↦ (0, omega arith, e)
  | no f ↦ let (i, h, e) = names_stands xs k (ap (λ (b : Bool). b || names xs k) (sym (ne_eqb x k f)) ∙ p) in (suc i, omega arith, e)
]

stands_names : (xs : List ℕ) (k i : ℕ) → i < length xs → get_or xs i 0 ≡ k → names xs k ≡ true
unfolding names
stands_names [] k i h e = absurd (omega arith)
stands_names (x ∷ xs) k zero h e = ap (λ (b : Bool). b || names xs k) (eq-eqb x k e)
stands_names (x ∷ xs) k (suc i) h e = ap (λ (b : Bool). eqb x k || b) (stands_names xs k i (omega arith) e) ∙ or-true (eqb x k)

set-named : (b : Bool) {byte : ℕ} → byte ≡ cond b 1 0 → (byte ≡ 0 → ⊥) → b ≡ true
set-named true p f = refl
set-named false p f = absurd (f p)

module _ (n : ℕ) (handed bytes : List ℕ) (s : Set n handed bytes) where
  byte-handed : (k : ℕ) → ByteSet n bytes k → StandsIn (length handed) handed k
  byte-handed k (h, f) = names_stands handed k (set-named (names handed k) (s.byte_is k h) f)

  handed-byte : (k : ℕ) → StandsIn (length handed) handed k → ByteSet n bytes k
  handed-byte k (i, h, e) =
      let b : k < n = omega (arith, s.below i h) in
      let one : get_or bytes k 0 ≡ 1 = s.byte_is k b ∙ ap (λ (b : Bool). cond b 1 0) (stands_names handed k i h e) in
      (b, λ z. omega arith)

  same_numbers : (list₀ list : List ℕ) (count : ℕ) → ListsBytes n bytes list₀ list count → SameNumbers handed list count
  same_numbers list₀ list count l = record {
    ascends = l.ascending.ascends;
    same = λ k. ((λ x. byte-handed k ((l.lists_set k).0 x)), λ x. (l.lists_set k).1 (handed-byte k x));
  }

-- the bytes are 0 and 1
one_at_most : (b : Bool) {byte : ℕ} → byte ≡ cond b 1 0 → byte ≤ 1
one_at_most true p = omega arith
one_at_most false p = omega arith

bytes_sound : (n : ℕ) (handed bytes : List ℕ) → Set n handed bytes → marks_sound n bytes ≡ true
bytes_sound n handed bytes s = at_within 1 (take n bytes) (λ i h.
    let b : i < n = omega (arith, length-take n bytes) in
    one_at_most (names handed i) (get_or-take n bytes i 0 b ∙ s.byte_is i b))

-- so that question 6 alone is left to a getter, of its list
room_left : (n : ℕ) (handed bytes : List ℕ) → Set n handed bytes → (room : ℕ) → two_long n (length bytes) room ≡ leb n room
unfolding two_long
room_left n handed bytes s room = ap (λ (b : Bool). b && leb n room) (le-leb n (length bytes) s.long)

number-left : (sound : Bool) (n : ℕ) (handed bytes list₀ : List ℕ) → sound ≡ true → Set n handed bytes → get_marks_refusal sound n bytes list₀ ≡ ask (leb n (length list₀)) 6 0
number-left sound n handed bytes list₀ p s = asks 6 (room_left n handed bytes s (length list₀)) (asks 7 (both_and p (bytes_sound n handed bytes s)) refl)

-- from what the calls promise
set-marks : {sound : Bool} {n : ℕ} {handed bytes₀ bytes : List ℕ} → SetMarks sound n handed bytes₀ bytes (Ok tt) → Set n handed bytes × (sound ≡ true)
set-marks {sound} {n} {handed} {bytes₀} {bytes} s =
    let z = zero_of s.answers in
    let is = s.column_after ∙ after-accepted (set_marks_refusal sound n handed bytes₀) (marks n handed) bytes₀ z in
    let (room, below) = set_met sound n handed bytes₀ z in (
      record { below = below; long = marks_long n handed bytes₀ bytes is room; byte_is = marks_at n handed bytes₀ bytes is },
      met sound 6 _ (goes_on (leb n (length bytes₀)) 5 _ z),
    )

record SyndromeIs (v e : ℕ) (handed column : Syndrome) : Type 0 where
  pub defects : Set v handed.defects column.defects
  pub erasures : Set e handed.erasures column.erasures
  pub sound : counts_sound v e ≡ true

set-syndrome : {v e : ℕ} {handed column₀ column : Syndrome} → SetSyndrome v e handed column₀ column (Ok tt) → SyndromeIs v e handed column
set-syndrome {v} {e} {handed} {column₀} {column} s =
    let q = set_syndrome_refusal v e handed column₀ in
    let z = zero_of s.answers in
    let ((room-d, room-e), (below-d, below-e)) = set-syndrome_met v e handed column₀ z in
    let is-d = s.defects_after ∙ after-accepted q (marks v handed.defects) column₀.defects z in
    let is-e = s.erasures_after ∙ after-accepted q (marks e handed.erasures) column₀.erasures z in
    record {
      defects = record {
        below = below-d;
        long = marks_long v handed.defects column₀.defects column.defects is-d room-d;
        byte_is = marks_at v handed.defects column₀.defects column.defects is-d;
      };
      erasures = record {
        below = below-e;
        long = marks_long e handed.erasures column₀.erasures column.erasures is-e room-e;
        byte_is = marks_at e handed.erasures column₀.erasures column.erasures is-e;
      };
      sound = met (counts_sound v e) 6 _ (goes_on (leb v (length column₀.defects) && leb e (length column₀.erasures)) 5 _ z);
    }

-- from what their callers learn
defects_written : {v : ℕ} {handed defect : List ℕ} → DefectsSet v handed defect → Set v handed defect × (vertex_count_sound v ≡ true)
defects_written (defects_set κs a s h) = set-marks h

erasures_written : {e : ℕ} {handed erasure : List ℕ} → ErasuresSet e handed erasure → Set e handed erasure × (edge_count_sound e ≡ true)
erasures_written (erasures_set κs a s h) = set-marks h

syndrome_written : {v e : ℕ} {handed column : Syndrome} → SyndromeSet v e handed column → SyndromeIs v e handed column
syndrome_written (syndrome_set κs a s h) = set-syndrome h

pub set_then_get : SetThenGet
set_then_get = record {
  defect_vertices = λ v handed defect list₀ list count c g. same_numbers v handed defect (defects_written c).0 list₀ list count (getter_lists.defect_vertices v defect list₀ list count g);
  erasures = λ e handed erasure list₀ list count c g. same_numbers e handed erasure (erasures_written c).0 list₀ list count (getter_lists.erasures e erasure list₀ list count g);
  syndrome_defects = λ v e handed column lists₀ lists defects erasures c g.
      same_numbers v handed.defects column.defects (syndrome_written c).defects lists₀.defects lists.defects defects (getter_lists.syndrome_defects v e column lists₀ lists defects erasures g);
  syndrome_erasures = λ v e handed column lists₀ lists defects erasures c g.
      same_numbers e handed.erasures column.erasures (syndrome_written c).erasures lists₀.erasures lists.erasures erasures (getter_lists.syndrome_erasures v e column lists₀ lists defects erasures g);
  defect_vertices_number = λ v handed defect list₀ list r c g.
      let (s, p) = defects_written c in (defects_read g).answers.number_is ∙ number-left (vertex_count_sound v) v handed defect list₀ p s;
  erasures_number = λ e handed erasure list₀ list r c g.
      let (s, p) = erasures_written c in (erasures_read g).answers.number_is ∙ number-left (edge_count_sound e) e handed erasure list₀ p s;
  syndrome_number = λ v e handed column lists₀ lists r c g.
      let s = syndrome_written c in
      let d = bytes_sound v handed.defects column.defects s.defects in
      let f = bytes_sound e handed.erasures column.erasures s.erasures in
      (syndrome_read g).answers.number_is
      ∙ asks 6 (ands (room_left v handed.defects column.defects s.defects (length lists₀.defects)) (room_left e handed.erasures column.erasures s.erasures (length lists₀.erasures)))
      (asks 7 (both_and s.sound (both_and d f)) refl);
}
