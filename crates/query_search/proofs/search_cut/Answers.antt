-- `query_search::search_cut` meets its contract: each call leaves what the next requires, and settling starts from the definition's sources. Assumes nothing.
use mathlib.Core.Path.{sym, ap, ◌∙◌, subst}
use native.Mathlib.Omega.{arith}
use lib.ListN.{length, get_or}
use Rattle.engine_walks.specs.Settling.{settled}
use Rattle.query_relaxing.specs.Ready.{graph_of, weighs, sources, end_of}
use Rattle.query_relaxing.proofs.Keys.{ready_as}
use Rattle.query_search.specs.Search.{stop_in}
use Rattle.query_search.proofs.Listing.{listed, searchable_as, waiting_as, built_as, ready_in, Waiting}
use Rattle.query_search.proofs.Origins.{first-waits, first-settled}
use Rattle.query_search.proofs.search_cut.Goals as goal

pub begin_status-requires : goal.begin_status-requires
begin_status-requires c = sym c.requires.boundary_len.0

pub fill_lists-requires : goal.fill_lists-requires
fill_lists-requires c =
    let p = searchable_as (sym c.begin_status.auto.status) c.requires.searchable in
    record { e_in_bounds = (omega arith, (omega (arith, p.same_b), (omega (arith, p.previous_fits), (p.ends_fit, p.numbers_fit)))); e_bound = (p.graph.few_edges, (p.graph.in_a, p.graph.in_b)) }

pub begin-requires : goal.begin-requires
begin-requires c =
    let p = searchable_as (sym c.begin_status.auto.status) c.requires.searchable in (p.graph.few_vertices, p.weight_fits, c.fill_lists.auto.lengths ∙ p.previous_fits, p.node_fits, p.leaf_fits)

pub settle-requires : goal.settle-requires
settle-requires c =
    let a = c.args in
    let n = length a.status.now in
    let l = c.requires.boundary_len in
    let p = searchable_as (sym c.begin_status.auto.status) c.requires.searchable in
    let w = first-waits n a.ends_a.now a.ends_b.now a.boundary.now l.0 a.origin l.2 in
    let q = subst (λ s. Waiting (length s) s (stop_in a.origin n)) (sym c.begin_status.ensures) (waiting_as (sym w.fits) w) in
    let f = c.fill_lists in
    let b = c.begin.ensures in
    let stop = c.stop_in.ensures ∙ ap (stop_in a.origin) l.1 in
    record {
      ready = b.ready;
      listed = listed p f.ensures f.auto.numbers f.auto.list_ends;
      begun = record {
        bytes = q.bytes;
        no_weight = b.weight_after;
        own_previous = b.previous_after;
        weights_within = p.weights_within;
        no_source = λ e. q.no_source (sym (ap (λ k. get_or c.begin_status.new.status k 0) stop) ∙ e);
      };
    }

pub returns : goal.returns
returns c =
    let x = c.args in
    let a = x.ends_a.now in
    let b = x.ends_b.now in
    let m = x.boundary.now in
    let w = weighs x.weights.now in
    let l = c.requires.boundary_len in
    let k = c.begin_status.auto.status in
    let r = c.settle.ensures in
    let f = c.fill_lists.ensures in
    let stop = c.stop_in.ensures ∙ ap (stop_in x.origin) l.1 in
    let state = r.by_index m ∙ (λ i. settled (graph_of (k i) a b m) w (sources (c.begin_status.ensures i)) (end_of (k i) (stop i)))
    ∙ first-settled (length x.status.now) a b m l.0 x.origin l.2 w in
    record { built = built_as k (record { numbers_are = f.numbers_are; ends_are = f.ends_are }); state = state; ready = ready_in state (ready_as k r.ready_2) }
