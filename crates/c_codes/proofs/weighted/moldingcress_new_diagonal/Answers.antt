-- `c_codes::weighted::moldingcress_new_diagonal` meets its contract: it hands on what `codes_calls` promises. Assumes nothing.
use Rattle.c_codes.proofs.Given.{given}
use Rattle.c_codes.proofs.weighted.moldingcress_new_diagonal.Goals as goal

pub returns : goal.returns
returns c =
    let k = c in
    record {
      answer = k.new_diagonal.result;
      called = given k.diagonal_from.ensures k.new_diagonal.ensures;
      reported = c.created_report.ensures;
    }
