-- `text_listing::write_code` meets its contract: in arrays of these lengths `new` answers as the definition of the text does, and `write_made` puts it. Assumes nothing.
use mathlib.Core.Path.{sym, ◌∙◌}
use Prim.Native.Nat.{ℕ}
use lib.Ieee.{Float, binary64, of_bits}
use lib.ListN.{length-replicate}
use Rattle.text_listing.proofs.Room.{room_of}
use Rattle.text_listing.proofs.Texts.{made_holds, made-fits, made-put}
use Rattle.text_listing.proofs.write_code.Goals as goal

pub slice_bounds-new-end : goal.slice_bounds-new-end
slice_bounds-new-end c = length-replicate {A = ℕ} 6144 0

pub slice_bounds-new-end-3 : goal.slice_bounds-new-end-3
slice_bounds-new-end-3 c = length-replicate {A = Float} 6144 (of_bits binary64 0x0)

pub slice_bounds-new-end-4 : goal.slice_bounds-new-end-4
slice_bounds-new-end-4 c = length-replicate {A = Float} 6144 (of_bits binary64 0x0)

pub slice_bounds-new-end-7 : goal.slice_bounds-new-end-7
slice_bounds-new-end-7 c = length-replicate {A = Float} 1024 (of_bits binary64 0x0)

pub slice_bounds-new-end-8 : goal.slice_bounds-new-end-8
slice_bounds-new-end-8 c = length-replicate {A = Float} 1024 (of_bits binary64 0x0)

pub slice_bounds-new-end-9 : goal.slice_bounds-new-end-9
slice_bounds-new-end-9 c = length-replicate {A = Float} 1024 (of_bits binary64 0x0)

pub slice_bounds-new-end-10 : goal.slice_bounds-new-end-10
slice_bounds-new-end-10 c = length-replicate {A = ℕ} 1024 0

pub slice_bounds-new-end-13 : goal.slice_bounds-new-end-13
slice_bounds-new-end-13 c = length-replicate {A = ℕ} 12288 0

pub slice_bounds-write_made-end : goal.slice_bounds-write_made-end
slice_bounds-write_made-end c = sym (c.ends_a-2-1.given ∙ length-replicate {A = ℕ} 6144 0)

pub slice_bounds-write_made-end-2 : goal.slice_bounds-write_made-end-2
slice_bounds-write_made-end-2 c = sym (c.ends_b-2-1.given ∙ length-replicate {A = ℕ} 6144 0)

pub slice_bounds-write_made-end-3 : goal.slice_bounds-write_made-end-3
slice_bounds-write_made-end-3 c = sym (c.half_weight-2-1.given ∙ length-replicate {A = ℕ} 6144 0)

pub slice_bounds-write_made-end-4 : goal.slice_bounds-write_made-end-4
slice_bounds-write_made-end-4 c = sym (c.boundary-2-1.given ∙ length-replicate {A = ℕ} 1024 0)

pub write_made-requires : goal.write_made-requires
write_made-requires c = let made = c.new-made in
    record { made_holds = made_holds _ _ _ _ _ _ _ (room_of _ (length-replicate {A = ℕ} 6144 0) (length-replicate {A = ℕ} 6144 0) (length-replicate {A = Float} 6144 (of_bits binary64 0x0)) (length-replicate {A = Float} 6144 (of_bits binary64 0x0)) (length-replicate {A = ℕ} 6144 0) (length-replicate {A = ℕ} 6144 0) (length-replicate {A = Float} 1024 (of_bits binary64 0x0)) (length-replicate {A = Float} 1024 (of_bits binary64 0x0)) (length-replicate {A = Float} 1024 (of_bits binary64 0x0)) (length-replicate {A = ℕ} 1024 0) (length-replicate {A = ℕ} 1024 0) (length-replicate {A = ℕ} 1024 0) (length-replicate {A = ℕ} 12288 0)) made.result made.ensures; made_in_bounds = made-fits _ _ _ _ _ _ _ (room_of _ (length-replicate {A = ℕ} 6144 0) (length-replicate {A = ℕ} 6144 0) (length-replicate {A = Float} 6144 (of_bits binary64 0x0)) (length-replicate {A = Float} 6144 (of_bits binary64 0x0)) (length-replicate {A = ℕ} 6144 0) (length-replicate {A = ℕ} 6144 0) (length-replicate {A = Float} 1024 (of_bits binary64 0x0)) (length-replicate {A = Float} 1024 (of_bits binary64 0x0)) (length-replicate {A = Float} 1024 (of_bits binary64 0x0)) (length-replicate {A = ℕ} 1024 0) (length-replicate {A = ℕ} 1024 0) (length-replicate {A = ℕ} 1024 0) (length-replicate {A = ℕ} 12288 0)) made.result made.ensures c.requires }

pub shape_of-text : goal.shape_of-text
shape_of-text c = c.text-1.given

pub returns : goal.returns
returns c = made-put _ _ _ _ _ _ _ (room_of _ (length-replicate {A = ℕ} 6144 0) (length-replicate {A = ℕ} 6144 0) (length-replicate {A = Float} 6144 (of_bits binary64 0x0)) (length-replicate {A = Float} 6144 (of_bits binary64 0x0)) (length-replicate {A = ℕ} 6144 0) (length-replicate {A = ℕ} 6144 0) (length-replicate {A = Float} 1024 (of_bits binary64 0x0)) (length-replicate {A = Float} 1024 (of_bits binary64 0x0)) (length-replicate {A = Float} 1024 (of_bits binary64 0x0)) (length-replicate {A = ℕ} 1024 0) (length-replicate {A = ℕ} 1024 0) (length-replicate {A = ℕ} 1024 0) (length-replicate {A = ℕ} 12288 0)) c.new-made.result c.new-made.ensures c.write_made.ensures
