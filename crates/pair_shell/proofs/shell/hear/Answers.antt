-- A block comes after what was read; a failure leaves the answers that were written.
use Rattle.std.proofs.Common.{◌≡◌, sym, ◌∙◌, take, false, true, rules}
use Rattle.pair_shell.specs.Lines.{ends_in}
use Rattle.pair_shell.specs.Running.{desk}
use Rattle.pair_shell.proofs.Hearing.{fails_after, hears_last, hears_quit, none_read, read_more, read_none, some_read, writes_more, writes_none}
use Rattle.pair_shell.proofs.shell.hear.Goals as goal

pub blocks-2-init : goal.blocks-2-init
blocks-2-init g c =
    let old = g.O.Write.contents c.args.writer.now in
    let first = desk c.args.session.now.opening c.args.session.now.world c.args.session.now.is_traced in
    record {
      written = writes_none old;
      heard = read_none (λ d. d.board.guest) first (g.R.Read.remaining c.args.reader.now) c.new-line.result.items old
          c.new-line.ensures.items;
    }

pub blocks-2-preserved : goal.blocks-2-preserved
blocks-2-preserved g c =
    let old = g.O.Write.contents c.args.writer.now in
    let mid = g.O.Write.contents c.blocks-2.writer in
    let new = g.O.Write.contents c.take_block.new.writer in
    let begin = desk c.args.session.now.opening c.args.session.now.world c.args.session.now.is_traced in
    let here = desk c.blocks-2.session.opening c.blocks-2.session.world c.blocks-2.session.is_traced in
    let next = desk c.take_block.new.session.opening c.take_block.new.session.world c.take_block.new.session.is_traced in
    let first = g.R.Read.remaining c.args.reader.now in
    let now = g.R.Read.remaining c.blocks-2.reader in
    let after = g.R.Read.remaining c.read_block.new.reader in
    let room = c.read_block.new.block in
    let block = take c.in-Some.count room in
    let line = c.blocks-2.line.items in
    let not : ends_in line block ≡ false = sym c.in_ok-outcome.ensures.ended ∙ sym c.if-has_ended.ensures in
    record {
      written = writes_more old mid new c.blocks-2.invariant.written c.in_ok-outcome.ensures.written;
      heard = read_more (λ d. d.board.guest) begin here next first now after line old mid new c.blocks-2.invariant.heard block
          (some_read now after room c.in_ok-count.field-0 c.in-Some.count c.in-Some.is c.in_ok-count.ensures.bytes)
          c.take_block.new.line.items not (c.in_ok-outcome.ensures.kept (sym c.if-has_ended.ensures)) c.in_ok-outcome.ensures.heard;
    }

pub returns-in_err-outcome : goal.returns-in_err-outcome
returns-in_err-outcome g c =
    let r = c.from_residual-in_err-outcome in
    let e = c.in_err-outcome.field-0.0 in
    let old = g.O.Write.contents c.args.writer.now in
    let mid = g.O.Write.contents c.blocks-2.writer in
    let new = g.O.Write.contents c.take_block.new.writer in
    let begin = desk c.args.session.now.opening c.args.session.now.world c.args.session.now.is_traced in
    fails_after (λ d. d.board.guest) begin (g.R.Read.remaining c.args.reader.now) r.result e old mid new r.ensures.1
    c.blocks-2.invariant.written c.in_err-outcome.ensures.written

pub returns-in_default : goal.returns-in_default
returns-in_default g c =
    let old = g.O.Write.contents c.args.writer.now in
    let mid = g.O.Write.contents c.blocks-2.writer in
    let new = g.O.Write.contents c.answer_last.new.writer in
    let begin = desk c.args.session.now.opening c.args.session.now.world c.args.session.now.is_traced in
    let here = desk c.blocks-2.session.opening c.blocks-2.session.world c.blocks-2.session.is_traced in
    let next = desk c.answer_last.new.session.opening c.answer_last.new.session.world c.answer_last.new.session.is_traced in
    let first = g.R.Read.remaining c.args.reader.now in
    let now = g.R.Read.remaining c.blocks-2.reader in
    let after = g.R.Read.remaining c.read_block.new.reader in
    hears_last (λ d. d.board.guest) begin here next first now after c.blocks-2.line.items old mid new c.blocks-2.invariant.heard
    c.deref.result.now c.answer_last.result c.blocks-2.invariant.written
    (none_read now after c.read_block.new.block c.in_ok-count.field-0 (search rules) c.in_ok-count.ensures.bytes) c.deref.ensures.value
    c.answer_last.ensures.written c.answer_last.ensures.heard

pub returns-then-has_ended : goal.returns-then-has_ended
returns-then-has_ended g c =
    let old = g.O.Write.contents c.args.writer.now in
    let mid = g.O.Write.contents c.blocks-2.writer in
    let new = g.O.Write.contents c.take_block.new.writer in
    let begin = desk c.args.session.now.opening c.args.session.now.world c.args.session.now.is_traced in
    let here = desk c.blocks-2.session.opening c.blocks-2.session.world c.blocks-2.session.is_traced in
    let next = desk c.take_block.new.session.opening c.take_block.new.session.world c.take_block.new.session.is_traced in
    let first = g.R.Read.remaining c.args.reader.now in
    let now = g.R.Read.remaining c.blocks-2.reader in
    let after = g.R.Read.remaining c.read_block.new.reader in
    let room = c.read_block.new.block in
    let block = take c.in-Some.count room in
    let ends : ends_in c.blocks-2.line.items block ≡ true = sym c.in_ok-outcome.ensures.ended ∙ sym c.if-has_ended.ensures in
    hears_quit (λ d. d.board.guest) begin here next first now after c.blocks-2.line.items old mid new c.blocks-2.invariant.heard block
    (some_read now after room c.in_ok-count.field-0 c.in-Some.count c.in-Some.is c.in_ok-count.ensures.bytes)
    (writes_more old mid new c.blocks-2.invariant.written c.in_ok-outcome.ensures.written) ends
    c.in_ok-outcome.ensures.heard
