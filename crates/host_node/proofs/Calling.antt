-- One call of a host's node, with the frame that goes with it, is how the host goes on.
use Rattle.std.proofs.Common.{ℕ, ◌≡◌, ◌≢◌, List, [], ◌∷◌, ◌++◌, append-nil, sym, ◌∙◌, subst, inl}
use Rattle.clone_state.specs.Copies.{CopiesAs}
use Rattle.ft_node.specs.AnyNode.{IsNode}
use Rattle.ft_node.specs.declared.node.Node as code
use Rattle.guest_lockstep.specs.Machine.{Machine}
use Rattle.guest_parts.specs.Guest.{Guest}
use Rattle.host_calls.proofs.Straying.{steps-follow}
use Rattle.host_calls.specs.Made.{Made}
use Rattle.host_frames.specs.Frames.{Said}
use Rattle.host_frames.specs.Meaning.{IsTold, Means, Speaks, is_report}
use Rattle.host_frames.specs.Meaning as meaning
use Rattle.host_law.specs.Frame.{Act, Came, Frame, quiet, sending, taking}
use Rattle.host_law.specs.Host as host
use Rattle.host_law.specs.Host.{HostStep}
use Rattle.host_node.proofs.Going.{once, ran_as}
use Rattle.host_node.proofs.Roles.{keeps_so}
use Rattle.host_node.specs.Goes as goes
use Rattle.host_node.specs.Goes.{AllBring, Goes, RunsTo, Says}
use Rattle.host_node.specs.Hosts.{HasJoined, HasNode, SameHost}
use Rattle.host_node.specs.Mail.{HasSaid, IsFrom}
use Rattle.host_node.specs.declared.host.HostNode.{HostNode}
use Rattle.host_node.specs.declared.host.Hosted.TheVariants as hosted
use Rattle.pair_protocol.specs.Copying.{Copying}
use Rattle.pair_protocol.specs.Lawful.{Among}
use Rattle.pair_protocol.specs.Node.{Node, Spare}
use Rattle.std.specs.Prelude.{false}

-- what a body that came says was told
pub told : (drives me : ℕ) (came : List (List ℕ)) (frames : List Frame) (said : Said) → IsFrom came said
    → AllBring drives me came frames → IsTold drives me said frames
told drives me came frames said p brought = brought p.body p.among said p.says

module _ {B S : Type 0} {H : Type 0} (state : B → S) (M : Machine S) (copied : B → Guest) where
  -- a call of the node made a step of the law's host, with frames that came and frames that went
  pub record Called (C : Copying S) (drives me : ℕ) (m : code.Node B H) (y : Node S) (frames : List Frame)
      (said : List (List ℕ)) : Type 0 where
    pub act : Act
    pub made : Made M C me y act (IsNode state M C drives m)
    pub came : Came act.takes frames
    pub says : Says drives me said act.sends

  -- whatever the node is in the law
  abbrev pub IsCalled : HostNode B H → code.Node B H → code.Node B H → List (List ℕ) → Type 0
  IsCalled new n m said =
      (C : Copying S) (drives me : ℕ) → CopiesAs state copied drives C.parts C.part_count C.assemble → new.number ≡ me
      → (y : Node S) → y.role ≢ Spare → IsNode state M C drives n y → (frames : List Frame)
      → AllBring drives me new.mail.came frames → Called C drives me m y frames said

  pub calls_once : (old new : HostNode B H) (n m : code.Node B H) (heard said : List (List ℕ)) → old.node ≡ hosted.Node n
      → new.node ≡ hosted.Node m → SameHost old new → new.mail.came ≡ old.mail.came ++ heard
      → new.mail.gone ≡ old.mail.gone ++ said → IsCalled new n m said → Goes state M copied old new
  calls_once old new n m heard said was is number came gone call = once state M copied old new (record {
    heard = heard;
    said = said;
    came = came;
    gone = gone;
    stays = λ joined. (subst (λ h. HasJoined h) (sym is) tt, number.number);
    joins = λ joined. inl (subst (λ h. HasJoined h) (sym was) tt);
    drives = number.drives;
    rings = number.rings;
    runs = λ C me copies numbered x hosted frames brought.
        (let drives = old.drives in
        let h = subst (λ h. HasNode state M C drives old.number me h x) was hosted in
        let made = call C drives me copies (number.number ∙ h.0) h.1.y h.1.other h.1.is frames brought in
        let l = steps-follow M C me x h.1.y made.made.y made.act h.1.follows made.made.step in
        let k = keeps_so M C me h.1.y made.made.y made.act made.made.step h.1.other in
        record {
          y = l.next;
          ran = ran_as M C drives me x l.next frames made.act said l.ran made.came made.says;
          is = subst (λ h. HasNode state M C drives new.number me h l.next) (sym is) (
            number.number ∙ h.0,
            record {
              y = made.made.y;
              follows = l.follows;
              is = made.made.is;
              other = k.other h.1.other;
              reads = k.reads ∙ h.1.reads;
            },
          );
        });
  })

  -- a call with no frame
  pub quietly : (old new : HostNode B H) (n m : code.Node B H) → old.node ≡ hosted.Node n → new.node ≡ hosted.Node m
      → SameHost old new → new.mail.came ≡ old.mail.came → new.mail.gone ≡ old.mail.gone
      → ((C : Copying S) (drives me : ℕ) → CopiesAs state copied drives C.parts C.part_count C.assemble → (y : Node S)
      → y.role ≢ Spare → IsNode state M C drives n y → Made M C me y quiet (IsNode state M C drives m))
      → Goes state M copied old new
  quietly old new n m was is number came gone call =
      calls_once old new n m [] [] was is number (came ∙ sym (append-nil old.mail.came)) (gone ∙ sym (append-nil old.mail.gone))
      (λ C drives me copies mine y other node frames brought. record {
        act = quiet;
        made = call C drives me copies y other node;
        came = tt;
        says = goes.Nothing;
      })

  -- a call that takes a frame that came
  pub taking_mine : (old new : HostNode B H) (n m : code.Node B H) (said : Said) → old.node ≡ hosted.Node n
      → new.node ≡ hosted.Node m → SameHost old new → new.mail.came ≡ old.mail.came → new.mail.gone ≡ old.mail.gone
      → IsFrom old.mail.came said
      → ((C : Copying S) (drives me : ℕ) → CopiesAs state copied drives C.parts C.part_count C.assemble → old.number ≡ me
      → (y : Node S) → y.role ≢ Spare → IsNode state M C drives n y → (frames : List Frame) → IsTold drives me said frames
      → (frame : Frame) × Among frame frames × Made M C me y (taking frame) (IsNode state M C drives m))
      → Goes state M copied old new
  taking_mine old new n m said was is number came gone from call =
      calls_once old new n m [] [] was is number (came ∙ sym (append-nil old.mail.came)) (gone ∙ sym (append-nil old.mail.gone))
      (λ C drives me copies mine y other node frames brought.
      (let t = told drives me new.mail.came frames said (subst (λ l. IsFrom l said) (sym came) from) brought in
      let c = call C drives me copies (sym number.number ∙ mine) y other node frames t in
      record { act = taking c.0; made = c.2; came = (c.1, tt); says = goes.Nothing }))

  -- the same of a call that does not look at the host's number
  pub taking_it : (old new : HostNode B H) (n m : code.Node B H) (said : Said) → old.node ≡ hosted.Node n
      → new.node ≡ hosted.Node m → SameHost old new → new.mail.came ≡ old.mail.came → new.mail.gone ≡ old.mail.gone
      → IsFrom old.mail.came said
      → ((C : Copying S) (drives me : ℕ) → CopiesAs state copied drives C.parts C.part_count C.assemble → (y : Node S)
      → y.role ≢ Spare → IsNode state M C drives n y → (frames : List Frame) → IsTold drives me said frames
      → (frame : Frame) × Among frame frames × Made M C me y (taking frame) (IsNode state M C drives m))
      → Goes state M copied old new
  taking_it old new n m said was is number came gone from call =
      taking_mine old new n m said was is number came gone from
      (λ C drives me copies mine y other node frames t. call C drives me copies y other node frames t)

  -- a call that leaves the node as it is, and whose answer is sent
  pub sending_it : (old new : HostNode B H) (n : code.Node B H) (said : Said) → old.node ≡ hosted.Node n
      → new.node ≡ old.node → SameHost old new → new.mail.came ≡ old.mail.came
      → HasSaid said old.mail.gone new.mail.gone → is_report said ≡ false
      → ((C : Copying S) (drives me : ℕ) → CopiesAs state copied drives C.parts C.part_count C.assemble → (y : Node S)
      → y.role ≢ Spare → IsNode state M C drives n y
      → (frame : Frame) × Means drives me said frame × HostStep M C me y (sending frame) y)
      → Goes state M copied old new
  sending_it old new n said was same number came went one call =
      calls_once old new n n [] (went.bytes ∷ []) was (same ∙ was) number (came ∙ sym (append-nil old.mail.came)) went.gone
      (λ C drives me copies mine y other node frames brought.
      (let c = call C drives me copies y other node in
      record {
        act = sending c.0;
        made = record { y = y; step = c.2; is = node };
        came = tt;
        says = goes.Then went.bytes said (c.0 ∷ []) went.spells (meaning.OfOne said c.0 one c.1) goes.Nothing;
      }))

  -- a frame that means nothing is sent
  pub saying : (old new : HostNode B H) (said : Said) → new.node ≡ old.node → SameHost old new
      → new.mail.came ≡ old.mail.came → HasSaid said old.mail.gone new.mail.gone
      → ((drives me : ℕ) → Speaks drives me said []) → Goes state M copied old new
  saying old new said same number came went speaks = once state M copied old new (record {
    heard = [];
    said = went.bytes ∷ [];
    came = came ∙ sym (append-nil old.mail.came);
    gone = went.gone;
    stays = λ joined. (subst (λ h. HasJoined h) (sym same) joined, number.number);
    joins = λ joined. inl (subst (λ h. HasJoined h) same joined);
    drives = number.drives;
    rings = number.rings;
    runs = λ C me copies numbered x hosted frames brought. record {
      y = x;
      ran = record {
        acts = [];
        run = host.Rests;
        came = tt;
        says = goes.Then went.bytes said [] went.spells (speaks old.drives me) goes.Nothing;
      };
      is = rw same (rw number.number hosted);
    };
  })
