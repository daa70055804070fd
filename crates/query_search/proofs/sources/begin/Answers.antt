-- `query_search::sources::begin` meets its contract: the callees promise weight 0, each vertex as its own previous, and the keys of the sources. Assumes nothing.
use mathlib.Core.Path.{◌≡◌, ap, ◌∙◌}
use native.Mathlib.Omega.{arith}
use borrow.Author.Rules.{rules}
use lib.ListN.{length, replicate}
use Rattle.columns.specs.Lists.{each}
use Rattle.columns.proofs.Counting.{replicate-each}
use Rattle.query_search.proofs.Beginning.{ready-first}
use Rattle.query_search.proofs.sources.begin.Goals as goal

pub returns : goal.returns
returns c =
    let a = c.args in
    let n = length a.status.now in
    let f : c.fill.new.self ≡ replicate (length a.weight.now) 0 = search rules in
    let w : c.fill.new.self ≡ each n (λ v. 0) = f ∙ ap (λ k. replicate k 0) c.requires.1 ∙ replicate-each n 0 in
    let p : c.own_previous.new.previous ≡ each n (λ v. v) = c.own_previous.ensures ∙ ap (λ k. each k (λ v. v)) c.requires.2 in
    let k = c.put_sources in
    record { ready = ready-first a.status.now _ _ _ _ c.requires.0 w p (omega (arith, k.auto.node, c.requires.3)) (k.auto.leaf ∙ c.requires.4) k.ensures.tree k.ensures.keyed; weight_after = w; previous_after = p }
