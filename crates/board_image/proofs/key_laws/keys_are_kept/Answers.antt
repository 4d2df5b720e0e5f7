-- By the receiver's kind.
use Rattle.std.proofs.Common.{ℕ, ◌≡◌, true, false, refl}
use Rattle.board_image.specs.Room.{IsKept, KeysAreKept, is_empty}
use Rattle.board_image.proofs.key_laws.keys_are_kept.Goals as goal
use Rattle.serial_2sio.specs.Port.{Port, data_after_byte, receiver_after_byte, word_of}
use Rattle.serial_2sio.specs.declared.acia.Receiver.{Receiver}
use Rattle.serial_2sio.specs.declared.acia.Receiver.TheVariants.{Empty, Full, FullLost, Over}

taken_receiver : (r : Receiver) → is_empty r ≡ true → receiver_after_byte r ≡ Full
taken_receiver Empty e = refl
taken_receiver Full e = absurd (cc)
taken_receiver FullLost e = absurd (cc)
taken_receiver Over e = absurd (cc)

taken_data : (r : Receiver) (kept byte : ℕ) → is_empty r ≡ true → data_after_byte r kept byte ≡ byte
taken_data Empty kept byte e = refl
taken_data Full kept byte e = absurd (cc)
taken_data FullLost kept byte e = absurd (cc)
taken_data Over kept byte e = absurd (cc)

lost_data : (r : Receiver) (kept byte : ℕ) → is_empty r ≡ false → data_after_byte r kept byte ≡ kept
lost_data Empty kept byte e = absurd (cc)
lost_data Full kept byte e = refl
lost_data FullLost kept byte e = refl
lost_data Over kept byte e = refl

pub returns : goal.returns
returns c p byte = record {
  taken = λ e. (
    taken_receiver p.receiver e,
    taken_data p.receiver p.receive_data (word_of p.control byte) e,
  );
  lost = lost_data p.receiver p.receive_data (word_of p.control byte);
}
