-- What a host's report says of it.
use Rattle.std.specs.Prelude.{◌≡◌, ℕ, max, Bool, true, false, slice_index, Result, Ok, Err}
use Rattle.ft_node.specs.Calls.{Tells}
use Rattle.ft_node.specs.declared.node.Node as code
use Rattle.guest_lockstep.specs.Machine.{Machine}
use Rattle.host_frames.specs.Frames as frames
use Rattle.host_frames.specs.declared.frame.Notice.TheVariants as notice
use Rattle.host_frames.specs.declared.frame.Report.{Report}
use Rattle.host_node.specs.Looks.{HasCount, HasGeneration, HasKeys, HasRole, OfNode}
use Rattle.host_node.specs.Mail.{HasSaid}
use Rattle.host_node.specs.declared.host.HostNode.{HostNode}
use Rattle.host_node.specs.declared.reporting.Known.{Known}
use Rattle.host_node.specs.declared.host.Hosted.{Hosted}
use Rattle.host_node.specs.declared.host.Hosted.TheVariants as hosted
use Rattle.i8080_words.specs.declared.refusal.Fault.{Fault}

-- how many keys are covered by what a node tells: none, if it tells of none
abbrev pub covered_by : Result ℕ Fault → ℕ
covered_by (Ok keys) = keys
covered_by (Err why) = 0

module _ {B S : Type 0} {H : Type 0} (state : B → S) (M : Machine S) where
  -- so many keys of a port are covered
  abbrev pub IsCovered : code.Node B H → (port keys : ℕ) → Type 0
  IsCovered node port keys = (told : Result ℕ Fault) × OfNode state M node (λ x. Tells M port x told) × (keys ≡ covered_by told)

  -- the same of a host, of which nothing is covered without a node
  abbrev pub HasCovered : Hosted B H → (port keys : ℕ) → Type 0
  HasCovered (hosted.Spare callbacks) port keys = keys ≡ 0
  HasCovered (hosted.Node node) port keys = IsCovered node port keys
  HasCovered hosted.Halted port keys = keys ≡ 0

  -- its generation; of a host whose node has halted, the first that it can have been of
  abbrev pub ReportsGeneration : (number : ℕ) → Hosted B H → ℕ → Type 0
  ReportsGeneration number hosted.Halted generation = generation ≡ max number 1
  ReportsGeneration number h generation = HasGeneration state M h generation

  -- what the host of a number says of itself whose loop knows this
  pub record Reports (known : Known) (number : ℕ) (h : Hosted B H) (report : Report) : Type 0 where
    pub role : HasRole state M h report.role
    pub generation : ReportsGeneration number h report.generation
    pub count : HasCount state M h report.count
    pub idle : report.is_idle ≡ known.is_idle
    pub behind : report.lag ≡ known.lag
    pub waits : report.writes ≡ known.writes
    pub tick : report.tick ≡ known.tick
    pub taken : HasKeys state M h report.taken
    pub first : HasCovered h 0 (slice_index report.covered 0)
    pub second : HasCovered h 1 (slice_index report.covered 1)

  -- such a report went, or none did
  abbrev pub SaysReport : Known → Bool → HostNode B H → HostNode B H → Type 0
  SaysReport known true old new =
      (report : Report) × Reports known old.number old.node report × HasSaid (frames.Tells (notice.Report report)) old.mail.gone new.mail.gone
  SaysReport known false old new = new.mail.gone ≡ old.mail.gone
