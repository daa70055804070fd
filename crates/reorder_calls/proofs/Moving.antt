-- Laws of moved neighbour lists. Assumes nothing.
use mathlib.Core.Path.{◌≡◌, refl, sym, ap, ◌∙◌}
use mathlib.Core.List.{List, [], ◌∷◌, ◌++◌}
use Prim.Native.Nat.{ℕ, zero, suc, ◌+◌, ◌≤◌, ◌<◌}
use native.Mathlib.Nat.{zero-add}
use native.Mathlib.Decide.{ℕ_discrete}
use native.Mathlib.Omega.{arith}
use native.Mathlib.Numerals.{add-one}
use lib.ListN.{length, get_or, set, take, drop, length-take, length-drop, length-append}
use lib.Seq.{length-take-le, sets, take-suc, take-length, get_or-take, get_or-drop, get_or-set_same, get_or-set_other, ext_get_or}
use Rattle.columns.specs.Lists.{joined, over}
use Rattle.columns.proofs.Columns.{sets-append, sets_over}
use Rattle.columns.proofs.Counting.{joined-more, joined_same, joined-room}
use Rattle.columns_neighbors.specs.Lists.{sum_to, neighbor_list_at}
use Rattle.columns_neighbors.proofs.Placing.{sum_more, sum_ascends}
use Rattle.reorder_columns.proofs.Copies.{length-copied, copied_at}
use Rattle.reorder_calls.specs.Columns.{moved_lists}
use Rattle.reorder_orders.specs.Steps.{IsOrder}
use Rattle.reorder_orders.proofs.Permutation.{total, along, along-order, order_below}

-- ---- sums of lengths

pub total_sum : (n : ℕ) (xs : List ℕ) → total n (λ u. get_or xs u 0) ≡ sum_to n xs
unfolding total sum_to
total_sum zero xs = refl
total_sum (suc n) xs = omega (arith, total_sum n xs)

-- the start of each list
pub starts_more : (i : ℕ) (xs starts : List ℕ) {sum : ℕ} → i < length starts → sum ≡ sum_to i xs → ((u : ℕ) → u < i → get_or starts u 0 ≡ sum_to u xs)
    → (u : ℕ) → u < i + 1 → get_or (set starts i sum) u 0 ≡ sum_to u xs
starts_more i xs starts {sum} room e f u h = elim (ℕ_discrete u i) [
  | yes q ↦ ap (λ (k : ℕ). get_or (set starts i sum) k 0) q ∙ get_or-set_same starts i sum 0 room ∙ e ∙ ap (λ (k : ℕ). sum_to k xs) (sym q)
  | no q ↦ get_or-set_other starts i u sum 0 q ∙ f u (omega arith)
]

-- ---- a run of numbers

module _ (from : List ℕ) (start : ℕ) (to₀ : List ℕ) (at : ℕ) where
  pub run_more : (i : ℕ) {to : List ℕ} → start + i < length from → to ≡ sets to₀ at (take i (drop start from))
      → set to (at + i) (get_or from (start + i) 0) ≡ sets to₀ at (take (i + 1) (drop start from))
  run_more i {to} h e =
      let long : i < length (drop start from) = omega (arith, length-drop start from) in
      let here : length (take i (drop start from)) ≡ i = length-take-le i (drop start from) (omega arith) in
      ap (λ (t : List ℕ). set t (at + i) (get_or from (start + i) 0)) e
      ∙ ap (set (sets to₀ at (take i (drop start from))) (at + i)) (sym (get_or-drop start from i 0))
      ∙ ap (λ (k : ℕ). set (sets to₀ at (take i (drop start from))) (at + k) (get_or (drop start from) i 0)) (sym here)
      ∙ sym (sets-append to₀ at (take i (drop start from)) (get_or (drop start from) i 0 ∷ []))
      ∙ ap (sets to₀ at) (sym (take-suc (drop start from) i 0 long) ∙ ap (λ (k : ℕ). take k (drop start from)) (sym (add-one i)))

-- ---- lists

module _ (lengths numbers : List ℕ) where
  pub length-list : (n u : ℕ) → u < n → sum_to n lengths ≤ length numbers → length (neighbor_list_at lengths numbers u) ≡ get_or lengths u 0
  length-list n u h fits =
      let next = sum_more u lengths in
      let most = sum_ascends (u + 1) n lengths (omega arith) in
      omega (arith, length-take (get_or lengths u 0) (drop (sum_to u lengths) numbers), length-drop (sum_to u lengths) numbers)

  pub list-fits : (n u : ℕ) → u < n → sum_to n lengths ≤ length numbers → sum_to u lengths + get_or lengths u 0 ≤ length numbers
  list-fits n u h fits = omega (arith, sum_more u lengths, sum_ascends (u + 1) n lengths (omega arith))

along_append : (f : ℕ → ℕ) (xs ys : List ℕ) → along f (xs ++ ys) ≡ along f xs + along f ys
unfolding along
along_append f [] ys = omega arith
along_append f (x ∷ xs) ys = omega (arith, along_append f xs ys)

joined_along : (order : List ℕ) (g : ℕ → List ℕ) (k : ℕ) → k ≤ length order → length (joined k (λ j. g (get_or order j 0))) ≡ along (λ u. length (g u)) (take k order)
unfolding joined along
joined_along order g zero h = refl
joined_along order g (suc k) h =
    let now = length-append (joined k (λ j. g (get_or order j 0))) (g (get_or order k 0)) in
    let next = ap (along (λ u. length (g u))) (take-suc order k 0 (omega arith)) ∙ along_append (λ u. length (g u)) (take k order) (get_or order k 0 ∷ []) in
    omega (arith, now, next, joined_along order g k (omega arith))

along_same : (f g : ℕ → ℕ) (l : List ℕ) → ((i : ℕ) → i < length l → f (get_or l i 0) ≡ g (get_or l i 0)) → along f l ≡ along g l
unfolding along
along_same f g [] h = refl
along_same f g (x ∷ xs) h = omega (arith, h 0 (omega arith), along_same f g xs (λ i l. h (suc i) (omega arith)))

-- the lists in the new order, as far as they are stored
abbrev pub listsTo : (order lengths numbers : List ℕ) → ℕ → List ℕ
listsTo order lengths numbers k = joined k (λ j. neighbor_list_at lengths numbers (get_or order j 0))

module _ (order lengths numbers : List ℕ) (o : IsOrder order) (fits : sum_to (length order) lengths ≤ length numbers) where
  abbrev stored : ℕ → List ℕ
  stored = listsTo order lengths numbers

  -- moved lists are as long together as the lists were
  pub length-lists : length (stored (length order)) ≡ sum_to (length order) lengths
  length-lists =
      joined_along order (neighbor_list_at lengths numbers) (length order) (omega arith)
      ∙ ap (along (λ u. length (neighbor_list_at lengths numbers u))) (take-length order)
      ∙ along_same (λ u. length (neighbor_list_at lengths numbers u)) (λ u. get_or lengths u 0) order (λ i h. length-list lengths numbers (length order) (get_or order i 0) (order_below order o i h) fits)
      ∙ along-order order o (λ u. get_or lengths u 0) ∙ total_sum (length order) lengths

  pub list_room : (k : ℕ) → k < length order → length (stored k) + get_or lengths (get_or order k 0) 0 ≤ sum_to (length order) lengths
  list_room k h =
      omega (arith, joined-room (length order) (λ j. neighbor_list_at lengths numbers (get_or order j 0)) k h, length-lists, length-list lengths numbers (length order) (get_or order k 0) (order_below order o k h) fits)

  -- one list more is stored
  pub lists_more : (k : ℕ) (to₀ : List ℕ) {to to' : List ℕ} {at start : ℕ} → k < length order → at ≡ length (stored k) → to ≡ sets to₀ 0 (stored k) → start ≡ sum_to (get_or order k 0) lengths
      → to' ≡ sets to at (take (get_or lengths (get_or order k 0) 0) (drop start numbers)) → to' ≡ sets to₀ 0 (stored (k + 1))
  lists_more k to₀ {to} {to'} {at} {start} h ea et es e =
      let count = get_or lengths (get_or order k 0) 0 in
      let list = neighbor_list_at lengths numbers (get_or order k 0) in
      e ∙ ap (λ (t : List ℕ). sets t at (take count (drop start numbers))) et
      ∙ ap (λ (x : ℕ). sets (sets to₀ 0 (stored k)) at (take count (drop x numbers))) es
      ∙ ap (λ (x : ℕ). sets (sets to₀ 0 (stored k)) x list) (ea ∙ sym (zero-add (length (stored k))))
      ∙ sym (sets-append to₀ 0 (stored k) list)
      ∙ ap (sets to₀ 0) (sym (joined-more k (λ j. neighbor_list_at lengths numbers (get_or order j 0))))

  pub lists-count : (k : ℕ) {at : ℕ} → k < length order → at ≡ length (stored k) → at + get_or lengths (get_or order k 0) 0 ≡ length (stored (k + 1))
  lists-count k h ea =
      let more = ap length (joined-more k (λ j. neighbor_list_at lengths numbers (get_or order j 0))) ∙ length-append (stored k) (neighbor_list_at lengths numbers (get_or order k 0)) in
      omega (arith, more, length-list lengths numbers (length order) (get_or order k 0) (order_below order o k h) fits)

  pub lists-end : (k : ℕ) (to₀ : List ℕ) {to : List ℕ} → k ≡ length order → sum_to (length order) lengths ≤ length to₀ → to ≡ sets to₀ 0 (stored k) → to ≡ over (moved_lists order lengths numbers) to₀
  unfolding moved_lists
  lists-end k to₀ h room e =
      e ∙ ap (λ (n : ℕ). sets to₀ 0 (stored n)) h ∙ sets_over to₀ (stored (length order)) (omega (arith, length-lists))

-- the lists of a copy
pub lists_copy : (order lengths numbers scratch₀ : List ℕ) {scratch : List ℕ} {sum : ℕ} → IsOrder order → sum ≡ sum_to (length order) lengths → sum ≤ length numbers → sum ≤ length scratch₀
    → scratch ≡ sets scratch₀ 0 (take sum numbers) → moved_lists order lengths scratch ≡ moved_lists order lengths numbers
unfolding moved_lists
lists_copy order lengths numbers scratch₀ {scratch} {sum} o es long room e =
    joined_same (length order) _ _ (λ k h.
    let u = get_or order k 0 in
    let b = order_below order o k h in
    let l = length-copied sum scratch₀ numbers e room long in
    let one = length-list lengths scratch (length order) u b (omega arith) in
    let two = length-list lengths numbers (length order) u b (omega arith) in
    let fits = list-fits lengths (take sum numbers) (length order) u b (omega (arith, length-take sum numbers)) in
    ext_get_or 0 (neighbor_list_at lengths scratch u) (neighbor_list_at lengths numbers u) (one ∙ sym two) (λ i c.
    let i_in : i < get_or lengths u 0 = omega arith in
    let far : sum_to u lengths + i < sum = omega (arith, length-take sum numbers) in
    get_or-take (get_or lengths u 0) (drop (sum_to u lengths) scratch) i 0 i_in ∙ get_or-drop (sum_to u lengths) scratch i 0
    ∙ copied_at sum scratch₀ numbers e room long 0 (sum_to u lengths + i) far
    ∙ sym (get_or-take (get_or lengths u 0) (drop (sum_to u lengths) numbers) i 0 i_in ∙ get_or-drop (sum_to u lengths) numbers i 0)))
