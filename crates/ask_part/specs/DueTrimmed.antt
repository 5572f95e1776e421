-- Whether a part is due reads nothing that trimming cuts away. Assumes nothing.
use Rattle.std.specs.Prelude.{◌≡◌, refl}
use Rattle.machine.specs.declared.time.Point.{Point}
use Rattle.machine.specs.declared.signal.Signal.{Signal}
use Rattle.machine.specs.declared.part.Part.{Part}
use Rattle.machine.specs.Model.{trimmed_part, trimmed_component}
use Rattle.machine.specs.Accept.{Class, waiting, delaying, detecting, driving, free, class_of, due, due_as}

-- by class
due_as_trimmed : (k : Class) (p : Part) (now : Point) (x : Signal) → due_as k (trimmed_part p) now x ≡ due_as k p now x
unfolding due_as trimmed_part trimmed_component
due_as_trimmed waiting p now x = refl
due_as_trimmed delaying p now x = refl
due_as_trimmed detecting p now x = refl
due_as_trimmed driving p now x = refl
due_as_trimmed free p now x = refl

-- a part is due where the trimmed one is
pub due_trimmed : (p : Part) (now : Point) (x : Signal) → due (trimmed_part p) now x ≡ due p now x
unfolding due trimmed_part trimmed_component
due_trimmed p now x = due_as_trimmed (class_of p) p now x
