-- What a load and a reset leave, place by place: "It sets each named edge in list order (erasure: weight 0) and logs the earlier weight. A repeated edge is allowed, the
-- last wins." "Reset undoes the log from its end; on an empty log it changes nothing."
use Rattle.std.specs.Prelude.{ℕ, ◌≤◌, ◌<◌, ◌≡◌, List, length, get_or}
use Rattle.engine_columns.specs.Records.{Engine, counts}
use Rattle.engine_claims.specs.LogCalled.{LoadAccepted, ResetAccepted}

-- ---- the places that name an edge

-- Engine, Load, sentence 2: of the first n places of a list, none names edge k.
abbrev pub NoneNames : (n : ℕ) → List ℕ → (k : ℕ) → Type 0
NoneNames n es k = (i : ℕ) → i < n → get_or es i 0 ≡ k → ⊥

-- Engine, Load, sentence 3: of the first n places of a list, place i is the last that names edge k.
pub record LastNames (n : ℕ) (es : List ℕ) (k i : ℕ) : Type 0 where
  pub within : i < n
  pub at_place : get_or es i 0 ≡ k
  pub none_later : (j : ℕ) → i < j → j < n → get_or es j 0 ≡ k → ⊥

-- Engine, Reset: of the first n places of a list, place i is the first that names edge k.
pub record FirstNames (n : ℕ) (es : List ℕ) (k i : ℕ) : Type 0 where
  pub within : i < n
  pub at_place : get_or es i 0 ≡ k
  pub none_earlier : (j : ℕ) → j < i → get_or es j 0 ≡ k → ⊥

-- ---- what an edge weighs

-- Engine, Load, sentences 2 and 3: what edge k weighs after the first n places of a load, if it weighed w before: what the last of them that names it gives, else w.
pub record LastWins (n : ℕ) (es : List ℕ) (x : ℕ → ℕ) (k w weight : ℕ) : Type 0 where
  pub named : (i : ℕ) → LastNames n es k i → weight ≡ x i
  pub unnamed : NoneNames n es k → weight ≡ w

-- Engine, Reset: what edge k weighs after n log entries are undone from the last to the first, if it weighed w before: what the first of them that names it holds, else w.
pub record FirstWins (n : ℕ) (log_edges log_weights : List ℕ) (k w weight : ℕ) : Type 0 where
  pub named : (i : ℕ) → FirstNames n log_edges k i → weight ≡ get_or log_weights i 0
  pub unnamed : NoneNames n log_edges k → weight ≡ w

-- ---- the calls

-- Engine, Load: what an accepted load leaves.
pub record LoadLeaves (es : List ℕ) (x : ℕ → ℕ) (e₀ e : Engine) : Type 0 where
  -- "Load needs an empty log."
  pub log_was_empty : e₀.counts.entries ≡ 0
  -- "An empty load leaves the log empty."
  pub counts_after : e.counts ≡ counts e₀.counts.vertices e₀.counts.edges (length es)
  -- "It sets each named edge in list order (erasure: weight 0)": "A repeated edge is allowed, the last wins."
  pub weighs : (k : ℕ) → k < e₀.counts.edges → LastWins (length es) es x k (get_or e₀.weights k 0) (get_or e.weights k 0)
  -- "and logs the earlier weight": place i of the log has the edge, and its weight after the places before i.
  pub logs_edge : (i : ℕ) → i < length es → get_or e.log_edges i 0 ≡ get_or es i 0
  pub logs_earlier : (i : ℕ) → i < length es → LastWins i es x (get_or es i 0) (get_or e₀.weights (get_or es i 0) 0) (get_or e.log_weights i 0)
  -- Places past the edges, and past the log's entries, are unchanged.
  pub past_edges : (k : ℕ) → e₀.counts.edges ≤ k → get_or e.weights k 0 ≡ get_or e₀.weights k 0
  pub past_entries : (i : ℕ) → length es ≤ i → (get_or e.log_edges i 0 ≡ get_or e₀.log_edges i 0) × (get_or e.log_weights i 0 ≡ get_or e₀.log_weights i 0)

-- Engine, Reset: what an accepted reset leaves; it only reads the log.
pub record ResetLeaves (e₀ e : Engine) : Type 0 where
  pub counts_after : e.counts ≡ counts e₀.counts.vertices e₀.counts.edges 0
  -- "Reset undoes the log from its end;"
  pub weighs : (k : ℕ) → k < e₀.counts.edges → FirstWins e₀.counts.entries e₀.log_edges e₀.log_weights k (get_or e₀.weights k 0) (get_or e.weights k 0)
  -- "on an empty log it changes nothing."
  pub empty_log : e₀.counts.entries ≡ 0 → e ≡ e₀
  -- Places past the edges are unchanged.
  pub past_edges : (k : ℕ) → e₀.counts.edges ≤ k → get_or e.weights k 0 ≡ get_or e₀.weights k 0

-- Engine, Load and Reset: of every accepted load and reset, whatever columns they are lent; and a reset after a load gives every weight back.
pub record LoadsAndResets : Type 0 where
  pub load : (es : List ℕ) (x : ℕ → ℕ) (e₀ e : Engine) → LoadAccepted es x e₀ e → LoadLeaves es x e₀ e
  pub reset : (e₀ e : Engine) → ResetAccepted e₀ e → ResetLeaves e₀ e
  pub load_then_reset : (es : List ℕ) (x : ℕ → ℕ) (e₀ e₁ e₂ : Engine) → LoadAccepted es x e₀ e₁ → ResetAccepted e₁ e₂ → (e₂.weights ≡ e₀.weights) × (e₂.counts ≡ e₀.counts)
