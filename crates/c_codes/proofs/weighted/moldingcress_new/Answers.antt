-- `c_codes::weighted::moldingcress_new` meets its contract: it hands on what `codes_calls` promises. Assumes nothing.
use Rattle.c_codes.proofs.weighted.moldingcress_new.Goals as goal

pub returns : goal.returns
returns c =
    let k = c in
    record {
      answer = k.new.result;
      called = k.new.ensures;
      reported = c.created_report.ensures;
    }
