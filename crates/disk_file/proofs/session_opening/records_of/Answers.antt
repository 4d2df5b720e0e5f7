use Rattle.std.proofs.Common.{rules, arith, ◌≡◌, ◌++◌, [], ◌∷◌, All, length, List, sym, ◌∙◌, ap, subst, length-append}
use Rattle.std.proofs.lemmas.List.Elements.{All-push}
use Rattle.shared_disk.specs.declared.store.Record.{Record}
use Rattle.disk_file.specs.Kept.{AreWhole, bytes_of}
use Rattle.disk_file.proofs.Images.{push_record, push_whole}
use Rattle.disk_file.proofs.session_opening.records_of.Goals as goal

pub loop-rest-preserved : goal.loop-rest-preserved
loop-rest-preserved c =
    let i = c.loop-rest.invariant in
    let xs = c.loop-rest.records.items in
    let r = c.first_record.result.0 in
    let after = c.first_record.result.1.now in
    let first = c.first_record.ensures in
    let items : c.push.new.self.items ≡ xs ++ r ∷ [] = search rules in
    record {
      read = ap (λ (l : List Record). bytes_of l ++ after) items ∙ push_record xs r c.loop-rest.rest.now after c.args.image.now i.read first.bytes;
      whole = subst AreWhole (sym items) (push_whole xs r i.whole first.size);
      unwritten = subst (All (λ (r : Record). r.number ≡ 0)) (sym items) (All-push (λ (r : Record). r.number ≡ 0) xs r i.unwritten first.unwritten);
      size = omega (arith, ap length items, length-append xs (r ∷ []), first.shorter, i.size);
    }
