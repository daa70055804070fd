-- `text_listing::built::write_reply` meets its contract: each case of the reply is what `write_refusal` or `write_listing` promises. Assumes nothing.
use Rattle.text_listing.proofs.Texts.{refused-reply, crossed-reply, refused-reply-fits, crossed-reply-fits}
use borrow.Author.Rules.{rules}
use Rattle.text_listing.proofs.built.write_reply.Goals as goal

pub write_refusal-requires : goal.write_refusal-requires
write_refusal-requires c =
    let s = c in
    rw c.from.ensures (refused-reply-fits _ _ _ _ _ _ _ _ _ s.args.reply c.in-Err.refusal (let t = c.in-Err.is in cc) s.requires.reply_in_bounds)

pub write_listing-requires : goal.write_listing-requires
write_listing-requires c = let s = c in
    record { vertices_bound = search rules; edges_bound = search rules; crossing_in_bounds = crossed-reply-fits _ _ _ _ _ _ _ _ _ s.args.reply _ (let t = c.in-Ok.is in cc) s.requires.reply_in_bounds }

pub returns-in-Err : goal.returns-in-Err
returns-in-Err c =
    let s = c.args in
    refused-reply _ _ _ _ _ _ _ _ _ s.reply c.in-Err.refusal (rw c.from.ensures at c.write_refusal.ensures) (let t = c.in-Err.is in cc)

pub returns-in-Ok : goal.returns-in-Ok
returns-in-Ok c =
    let s = c.args in
    crossed-reply _ _ _ _ _ _ _ _ _ s.reply _ c.write_listing.ensures (let t = c.in-Ok.is in cc)
