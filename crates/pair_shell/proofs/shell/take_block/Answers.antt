-- A failure leaves the answers that were written.
use Rattle.std.proofs.Common.{◌≡◌, ◌∷◌, ◌∙◌, [], refl, sym, true, false}
use Rattle.pair_shell.specs.Lines.{byte_ends, heard_at, heard_in}
use Rattle.pair_shell.specs.Running.{desk}
use Rattle.pair_shell.proofs.Lines.{ends_later, heard_here, heard_later, heard_none, keeps_later}
use Rattle.pair_shell.proofs.Hearing.{answers_until, hears_all, hears_more, hears_none, writes_more, writes_none}
use Rattle.pair_shell.proofs.shell.take_block.Goals as goal

pub bytes-init : goal.bytes-init
bytes-init g c =
    let old = g.O.Write.contents c.args.writer.now in
    let first = desk c.args.session.now.opening c.args.session.now.world c.args.session.now.is_traced in
    record {
      written = writes_none old;
      heard = hears_none (λ d. d.board.guest) first (heard_in c.args.line.now.items c.args.block.now) old;
      ends = refl;
      keeps = refl;
    }

pub returns-in_err-outcome-clause-written : goal.returns-in_err-outcome-clause-written
returns-in_err-outcome-clause-written g c =
    let r = c.from_residual in
    let e = c.in_err-outcome.field-0.0 in
    let old = g.O.Write.contents c.args.writer.now in
    let mid = g.O.Write.contents c.bytes.writer in
    let new = g.O.Write.contents c.take_byte.new.writer in
    answers_until r.result e old mid new r.ensures.1 c.bytes.invariant.written c.in_err-outcome.ensures.written

pub returns-then-has_ended-clause-written : goal.returns-then-has_ended-clause-written
returns-then-has_ended-clause-written g c = writes_more _ _ _ c.bytes.invariant.written c.in_ok-outcome.ensures.written

pub returns-then-has_ended-clause-heard : goal.returns-then-has_ended-clause-heard
returns-then-has_ended-clause-heard g c =
    let old = g.O.Write.contents c.args.writer.now in
    let mid = g.O.Write.contents c.bytes.writer in
    let new = g.O.Write.contents c.take_byte.new.writer in
    let line = c.bytes.line.items in
    let byte = c.in-Some.byte.now in
    let bytes : c.bytes.rest.now ≡ byte ∷ c.in-Some.after.now = c.in-Some.ensures.cases.0 in
    let ends : byte_ends line byte ≡ true = sym c.in_ok-outcome.ensures.ended ∙ sym c.if-has_ended.ensures in
    let first = desk c.args.session.now.opening c.args.session.now.world c.args.session.now.is_traced in
    let here = desk c.bytes.session.opening c.bytes.session.world c.bytes.session.is_traced in
    let next = desk c.take_byte.new.session.opening c.take_byte.new.session.world c.take_byte.new.session.is_traced in
    let all = heard_in c.args.line.now.items c.args.block.now in
    hears_all (λ d. d.board.guest) first next all [] old new
    (hears_more (λ d. d.board.guest) first here next all (heard_in line c.bytes.rest.now) (heard_at line byte) [] old mid new
    c.bytes.invariant.heard (heard_here line c.bytes.rest.now c.in-Some.after.now byte bytes ends) c.in_ok-outcome.ensures.heard)
    refl

pub bytes-preserved : goal.bytes-preserved
bytes-preserved g c =
    let line = c.bytes.line.items in
    let byte = c.in-Some.byte.now in
    let after = c.in-Some.after.now in
    let kept = c.take_byte.new.line.items in
    let bytes : c.bytes.rest.now ≡ byte ∷ after = c.in-Some.ensures.cases.0 in
    let not : byte_ends line byte ≡ false = sym c.in_ok-outcome.ensures.ended ∙ sym c.if-has_ended.ensures in
    let first = desk c.args.session.now.opening c.args.session.now.world c.args.session.now.is_traced in
    let here = desk c.bytes.session.opening c.bytes.session.world c.bytes.session.is_traced in
    let next = desk c.take_byte.new.session.opening c.take_byte.new.session.world c.take_byte.new.session.is_traced in
    record {
      written = writes_more _ _ _ c.bytes.invariant.written c.in_ok-outcome.ensures.written;
      heard = hears_more (λ d. d.board.guest) first here next (heard_in c.args.line.now.items c.args.block.now)
          (heard_in line c.bytes.rest.now) (heard_at line byte) (heard_in kept after) (g.O.Write.contents c.args.writer.now)
          (g.O.Write.contents c.bytes.writer) (g.O.Write.contents c.take_byte.new.writer) c.bytes.invariant.heard
          (heard_later line kept c.bytes.rest.now after byte bytes not c.in_ok-outcome.ensures.kept)
          c.in_ok-outcome.ensures.heard;
      ends = ends_later line kept c.bytes.rest.now after byte bytes not c.in_ok-outcome.ensures.kept ∙ c.bytes.invariant.ends;
      keeps = keeps_later line kept c.bytes.rest.now after byte bytes c.in_ok-outcome.ensures.kept ∙ c.bytes.invariant.keeps;
    }

pub returns-clause-heard : goal.returns-clause-heard
returns-clause-heard g c =
    let old = g.O.Write.contents c.args.writer.now in
    let new = g.O.Write.contents c.bytes.writer in
    let first = desk c.args.session.now.opening c.args.session.now.world c.args.session.now.is_traced in
    let here = desk c.bytes.session.opening c.bytes.session.world c.bytes.session.is_traced in
    hears_all (λ d. d.board.guest) first here (heard_in c.args.line.now.items c.args.block.now)
    (heard_in c.bytes.line.items c.bytes.rest.now) old new c.bytes.invariant.heard
    (heard_none c.bytes.line.items c.bytes.rest.now c.in_default.ensures.cases)
