use Rattle.std.proofs.Common.{◌≡◌, ℕ, List, ◌∷◌, ◌++◌, subst, append_assoc}
use Rattle.std.specs.Prelude.{OnOk}
use Rattle.byteorder.specs.Endian.{big_bytes}
use Rattle.log_entry.specs.Spelling.{spelling}
use Rattle.log_channel.specs.Packet.{packet_bytes}
use Rattle.log_channel.proofs.packet.Packet.write.Goals as goal

-- what comes before an entry
abbrev head_bytes : ℕ → ℕ → ℕ → List ℕ
head_bytes tag generation number = tag ∷ big_bytes 4 generation ++ big_bytes 8 number

pub returns-in_ok-extend_from_slice-in-Log-clause-ok : goal.returns-in_ok-extend_from_slice-in-Log-clause-ok
returns-in_ok-extend_from_slice-in-Log-clause-ok c =
    let out = c.args.out.now.items in
    let entry = spelling c.in-Log.entry in
    let front = head_bytes 0x4C c.in-Log.generation c.in-Log.index in
    let whole : c.extend_from_slice.new.self.items ++ entry ≡ out ++ packet_bytes c.args.self.now =
    rw (c.in_ok-extend_from_slice-in-Log.ensures.items, c.try_reserve.ensures.items, c.head-front.ensures) (
    rw c.in-Log.is (append_assoc out front entry)
    )
    in
    subst (λ (bytes : List ℕ). OnOk c.write.result (c.write.new.out.items ≡ bytes)) whole c.write.ensures.ok
