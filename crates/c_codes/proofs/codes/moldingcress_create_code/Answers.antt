-- `c_codes::codes::moldingcress_create_code` meets its contract: it hands on what `codes_calls` promises. Assumes nothing.
use Rattle.c_codes.proofs.codes.moldingcress_create_code.Goals as goal

pub returns : goal.returns
returns c =
    let k = c in
    record {
      answer = k.create_code.result;
      called = k.create_code.ensures;
      reported = c.created_report.ensures;
    }
