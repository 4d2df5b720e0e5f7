-- A piece ends at a comma, or at the end of the text.
use Rattle.std.proofs.Common.{Some, None, arith, rules}
use Rattle.std.proofs.lemmas.Str.Pattern.{split_parts}
use Rattle.command_line.proofs.Pieces.{last_piece, one_more_piece}
use Rattle.command_line.proofs.lists.pieces_of.Goals as goal

pub cuts-preserved : goal.cuts-preserved
cuts-preserved c =
    let parts = split_parts 44 c.cuts.rest.now (Some (c.in-Some.piece, c.in-Some.more)) c.in-Some.ensures.cases (omega arith) in (
      search rules,
      one_more_piece c.args.text.now c.cuts.rest.now c.in-Some.more.now c.in-Some.piece c.cuts.pieces.items
          c.push.new.self.items c.cuts.invariant.1 c.in_ok-push.ensures.items parts.0 parts.1,
    )

pub returns : goal.returns
returns c =
    let lacks = split_parts 44 c.cuts.rest.now None c.in_default.ensures.cases (omega arith) in
    last_piece c.args.text.now c.cuts.rest c.cuts.pieces.items c.push-2.new.self.items c.cuts.invariant.1
    c.in_ok-push-2.ensures.items lacks
