-- `codes_calls::create::create_code` meets its contract: `create_in` promises it, and the array that it is lent has 4,096 places. Assumes nothing.
use Rattle.codes_calls.proofs.create.create_code.Goals as goal

pub shape_of-ends_a : goal.shape_of-ends_a
shape_of-ends_a c = c.create_in.auto.ends_a

pub shape_of-ends_b : goal.shape_of-ends_b
shape_of-ends_b c = c.create_in.auto.ends_b

pub shape_of-p : goal.shape_of-p
shape_of-p c = c.create_in.auto.p

pub shape_of-pe : goal.shape_of-pe
shape_of-pe c = c.create_in.auto.pe

pub shape_of-half_weight : goal.shape_of-half_weight
shape_of-half_weight c = c.create_in.auto.half_weight

pub shape_of-erasure : goal.shape_of-erasure
shape_of-erasure c = c.create_in.auto.erasure

pub shape_of-pos_i : goal.shape_of-pos_i
shape_of-pos_i c = c.create_in.auto.pos_i
