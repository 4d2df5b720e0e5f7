-- What a source of keys gives.
use Rattle.std.specs.Prelude.{ℕ, List, [], ◌∷◌}
use Rattle.console_terminal.specs.declared.keys.Heard.{Heard}

-- the bytes of what was heard
abbrev pub heard_bytes : Heard → List ℕ
heard_bytes (Heard.Key key) = key ∷ []
heard_bytes Heard.Quiet = []
heard_bytes Heard.End = []
heard_bytes Heard.Failed = []
