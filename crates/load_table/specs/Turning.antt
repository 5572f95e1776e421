-- What one command that is known and in place comes to, and what a Span asks for. Assumes nothing.
use Rattle.std.specs.Prelude.{ℕ, ◌+◌, ◌<◌, ◌≤◌, cond, List, length, leb}
use Rattle.machine.specs.Load.{Read, Reading, ended, refused, command_width, whole_command}
use Rattle.load_commands.specs.declared.progress.Progress.{Progress}
use Rattle.load_commands.specs.Spanned.{span_count}

-- there is a last part, and it counts its spans within its places
pub record Spannable (progress : Progress) : Type 0 where
  pub some : 0 < progress.count
  pub within : span_count progress ≤ 8

-- and there is a place left
pub record Room (progress : Progress) : Type 0 where
  pub some : 0 < progress.count
  pub left : span_count progress < 8

-- a command that is known and in place
unfoldable pub sized_command : List ℕ → ℕ → Reading → ℕ → Read
sized_command bs at rd b =
    cond (leb (at + command_width b) (length bs)) (whole_command bs at rd b) (ended (refused 1 at))
