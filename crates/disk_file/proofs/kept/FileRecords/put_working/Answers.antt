use Rattle.std.proofs.Common.{rules, arith, ◌≡◌, length, slice_set, Option, None, ℕ, List, sym, ◌∙◌, ap, subst}
use Rattle.disk_file.specs.Device.{LeavesOnly}
use Rattle.disk_file.specs.Sectors.{Resting, contents, with_sector, IsBeforeOrAfter}
use Rattle.disk_file.specs.Kept.{StandsFor, bytes_of}
use Rattle.disk_file.specs.declared.kept.PendingWrite.{PendingWrite}
use Rattle.shared_disk.specs.declared.store.Record.{Record}
use Rattle.disk_file.proofs.Images.{set_record, set_whole, set_length}
use Rattle.disk_file.proofs.kept.FileRecords.put_working.Goals as goal

pub returns-in-Ok-clause-kept : goal.returns-in-Ok-clause-kept
returns-in-Ok-clause-kept g c =
    let none : c.args.self.now.pending ≡ None = c.requires.works in
    let works = c.requires.kept.works none in
    let records = c.args.self.now.records.items in
    let place = c.args.place in
    let len : c.len-sectors.result ≡ length records = search rules in
    let after : List Record = slice_set records place c.args.content in
    let same_length : length after ≡ length records = set_length records place c.args.content in
    let total : c.len-sectors.result ≡ length after = len ∙ sym same_length in
    let file = g.D.CrashableFile.seen c.add.new.device in
    let old = g.D.CrashableFile.seen c.args.self.now.device in
    let written : contents (length records) file ≡ with_sector (contents (length records) old) place c.args.content.bytes =
    subst (λ (n : ℕ). contents n file ≡ with_sector (contents n old) place c.args.content.bytes) len c.in-Ok.ensures.written in
    let stands : contents (length after) file ≡ bytes_of after =
    ap (λ (n : ℕ). contents n file) same_length ∙ written
    ∙ ap (λ (b : List ℕ). with_sector b place c.args.content.bytes) works.same
    ∙ set_record records place c.args.content c.requires.kept.whole c.requires.there in
    record {
      few = omega (arith, same_length, c.requires.kept.few);
      whole = set_whole records place c.args.content c.requires.kept.whole c.sized.ensures;
      stands = λ f left. subst (λ (p : Option PendingWrite). StandsFor (length after) (bytes_of after) p f) (sym none)
          (ap (contents (length after)) (c.in-Ok.ensures.durable f left) ∙ stands);
      works = λ _. record {
        rests = subst (λ (n : ℕ). Resting n c.in-Ok.end file) total c.in-Ok.ensures.rests;
        same = stands;
        durable = c.in-Ok.ensures.durable;
        short = omega (arith, total, c.in-Ok.ensures.short);
      };
      told = c.requires.kept.told;
    }

pub returns-in-Err-clause-kept : goal.returns-in-Err-clause-kept
returns-in-Err-clause-kept g c =
    let works = c.requires.kept.works c.requires.works in
    let records = c.args.self.now.records.items in
    let len : c.len-sectors.result ≡ length records = search rules in
    let old = g.D.CrashableFile.seen c.args.self.now.device in
    let P : ℕ → List ℕ → List ℕ → Type 0 = λ n disk f. IsBeforeOrAfter n disk c.args.place c.args.content.bytes f in
    let run : ℕ → List ℕ → Type 0 = λ n disk. LeavesOnly g.D.CrashableFile.moment g.D.CrashableFile.left_since c.args.self.now.device c.add.new.device (P n disk) in
    let any = subst (run (length records)) works.same (subst (λ (n : ℕ). run n (contents n old)) len c.add.ensures.any_moment) in
    record {
      few = c.requires.kept.few;
      whole = c.requires.kept.whole;
      stands = λ f left. any.each f (g.met.D.CrashableFile.counts_now c.add.new.device (g.D.CrashableFile.moment c.args.self.now.device) f any.later left);
      works = λ none. absurd (cc);
      told = λ none. absurd (cc);
    }
