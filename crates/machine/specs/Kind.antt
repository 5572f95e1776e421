-- Document 01, "Kinds of part", with requests 1 and 2: numbers, ports, direct ports, operands; the output of each kind
-- at a point; what sides and marks become. Document 01's own terms, a mark, a side and a direct port, are explained
-- where they are defined. Assumes nothing.
use Rattle.std.specs.Prelude.{ℕ, zero, suc, ◌-◌, ◌*◌, ◌/◌, ◌%◌, Bool, true, false, cond, ◌&&◌, List, [], ◌∷◌, get_or}
use Rattle.std.specs.Prelude.{eqb, leb, ltb, ℤ, pos, negsuc, ◌≡◌, Result, Ok, Err}
use Rattle.machine.specs.declared.time.Point.{Point}
use Rattle.machine.specs.declared.signal.Signal.{Signal}
use Rattle.machine.specs.declared.signal.Signal.TheVariants.{Absent, Value}
use Rattle.machine.specs.declared.part.Kind.{Kind}
use Rattle.machine.specs.declared.part.Kind.TheVariants.{Constant, Gain, Adder, Square, Pulse, Delay, Integrator}
use Rattle.machine.specs.declared.part.Kind.TheVariants.{ResetIntegrator, Detector, Hold, Sampler, Drive}
use Rattle.machine.specs.declared.part.Kind.TheVariants.{Clapper}
use Rattle.machine.specs.declared.part.UnknownKind.{UnknownKind}
use Rattle.machine.specs.declared.part.Side.{Side}
use Rattle.machine.specs.declared.part.Side.TheVariants.{Unset, Negative, Positive}
use Rattle.machine.specs.declared.part.Mark.{Mark}
use Rattle.machine.specs.declared.part.Mark.TheVariants.{Clear, Rising, Falling}
use Rattle.machine.specs.declared.part.Part.{Part}
use Rattle.machine.specs.Time.{tick}
use Rattle.machine.specs.Signal.{is_value, product, total, first_present, sampled}

-- the number of each kind, in the first column of the table of kinds
abbrev pub kind_number : Kind → ℕ
kind_number Constant = 0
kind_number Gain = 1
kind_number Adder = 2
kind_number Square = 3
kind_number Pulse = 4
kind_number Delay = 5
kind_number Integrator = 6
kind_number ResetIntegrator = 7
kind_number Detector = 8
kind_number Hold = 9
kind_number Sampler = 10
kind_number Drive = 11
kind_number Clapper = 12

-- the kinds in the order of their numbers
abbrev pub kinds : List Kind
kinds =
    Constant ∷ Gain ∷ Adder ∷ Square ∷ Pulse ∷ Delay ∷ Integrator ∷ ResetIntegrator ∷ Detector ∷ Hold ∷ Sampler ∷
    Drive ∷ Clapper ∷ []

-- there is a kind with this number; another is "unknown"
unfoldable pub kind_known : ℕ → Bool
kind_known k = ltb k 13

-- the kind with this number
unfoldable pub kind_of : ℕ → Kind
kind_of k = get_or kinds k Constant

-- what is found at a number: the kind that has it, or that no kind has
abbrev pub KindFound : ℕ → Result Kind UnknownKind → Type 0
KindFound k (Ok found) = (kind_known k ≡ true) × (found ≡ kind_of k)
KindFound k (Err unknown) = (kind_known k ≡ false) × (unknown ≡ record { 0 = k })

-- "A kind has the ports that its line names or reads, and no others": how many; they count from 0
abbrev pub ports : Kind → ℕ
ports Constant = 0
ports Gain = 1
ports Adder = 2
ports Square = 0
ports Pulse = 0
ports Delay = 1
ports Integrator = 1
ports ResetIntegrator = 2
ports Detector = 1
ports Hold = 1
ports Sampler = 2
ports Drive = 1
ports Clapper = 1

-- "One that the output reads within a point is direct": whether port 0 is a direct port
abbrev pub direct0 : Kind → Bool
direct0 Constant = false
direct0 Gain = true
direct0 Adder = true
direct0 Square = false
direct0 Pulse = false
direct0 Delay = false
direct0 Integrator = false
direct0 ResetIntegrator = false
direct0 Detector = false
direct0 Hold = true
direct0 Sampler = true
direct0 Drive = false
direct0 Clapper = false

-- whether port 1 is
abbrev pub direct1 : Kind → Bool
direct1 Constant = false
direct1 Gain = false
direct1 Adder = true
direct1 Square = false
direct1 Pulse = false
direct1 Delay = false
direct1 Integrator = false
direct1 ResetIntegrator = true
direct1 Detector = false
direct1 Hold = false
direct1 Sampler = true
direct1 Drive = false
direct1 Clapper = false

-- whether a kind's line names the operand a; a drive is "as 6", and names it as an integrator does. Request 2: a
-- clapper's position "starting at a", and its "speed (starting at b)"
abbrev pub names_a : Kind → Bool
names_a Constant = true
names_a Gain = true
names_a Adder = false
names_a Square = true
names_a Pulse = true
names_a Delay = false
names_a Integrator = true
names_a ResetIntegrator = true
names_a Detector = false
names_a Hold = false
names_a Sampler = false
names_a Drive = true
names_a Clapper = true

-- whether it names b
abbrev pub names_b : Kind → Bool
names_b Constant = false
names_b Gain = false
names_b Adder = false
names_b Square = true
names_b Pulse = false
names_b Delay = false
names_b Integrator = false
names_b ResetIntegrator = false
names_b Detector = false
names_b Hold = false
names_b Sampler = false
names_b Drive = false
names_b Clapper = true

-- whether it names p
abbrev pub names_p : Kind → Bool
names_p Constant = false
names_p Gain = false
names_p Adder = false
names_p Square = true
names_p Pulse = true
names_p Delay = false
names_p Integrator = false
names_p ResetIntegrator = false
names_p Detector = true
names_p Hold = false
names_p Sampler = false
names_p Drive = false
names_p Clapper = false

-- "p, where named, is 1 to 10^9", and so is a span
unfoldable pub is_positive : ℕ → Bool
is_positive p = leb 1 p && leb p 1_000_000_000

-- a number is 0
abbrev pub is_zero : ℤ → Bool
is_zero (pos n) = eqb n 0
is_zero (negsuc n) = false

-- "An operand that a kind doesn't name must be 0; p, where named, is 1 to 10^9; a and b are values"
unfoldable pub operands_fit : Kind → ℤ → ℤ → ℕ → Bool
operands_fit k a b p =
    cond (names_a k) (is_value a) (is_zero a) && cond (names_b k) (is_value b) (is_zero b) &&
    cond (names_p k) (is_positive p) (eqb p 0)

-- "P means p × r", in master ticks; 0 for a part whose kind names no p
abbrev pub period : Part → ℕ
period part = part.component.p * part.ratio

-- t is a multiple k × P with k ≥ 1
unfoldable pub positive_multiple : ℕ → ℕ → Bool
positive_multiple P t = ltb 0 t && eqb (t % P) 0

-- the point is (k × P, 0) with k ≥ 1
unfoldable pub at_multiple : ℕ → Point → Bool
at_multiple P now = eqb now.n 0 && positive_multiple P (tick now)

-- "with k = floor(t / P), and k − 1 instead if n = 0 and t is a positive multiple of P"
unfoldable pub half_waves : ℕ → Point → ℕ
half_waves P now = cond (at_multiple P now) (tick now / P - 1) (tick now / P)

-- "a for even k, b for odd"
unfoldable pub square : ℤ → ℤ → ℕ → Point → ℤ
square a b P now = cond (eqb (half_waves P now % 2) 0) a b

-- "a at the points (k × P, 1), k ≥ 1, else absent"
unfoldable pub pulse : ℤ → ℕ → Point → Signal
pulse a P now = cond (eqb now.n 1 && positive_multiple P (tick now)) (Value a) Absent

-- a mark is what a zero-crossing detector saw at a point and shows at the next: 1, −1 or none
abbrev pub mark_signal : Mark → Signal
mark_signal Clear = Absent
mark_signal Rising = Value (pos 1)
mark_signal Falling = Value (negsuc 0)

-- there is a mark
abbrev pub marked : Mark → Bool
marked Clear = false
marked Rising = true
marked Falling = true

-- the column "Output" of the table of kinds, for a part p at the point now: x and y are the readings of ports 0 and 1
-- at that point, `before` that of port 0 at the point before; the part's record holds the held number and signal, and
-- the mark set at the point before
unfoldable pub output_as : Kind → Part → Point → (x y before : Signal) → Signal
output_as Constant p now x y before = Value p.component.a
output_as Gain p now x y before = product p.component.a x
output_as Adder p now x y before = total x y
output_as Square p now x y before = Value (square p.component.a p.component.b (period p) now)
output_as Pulse p now x y before = pulse p.component.a (period p) now
output_as Delay p now x y before = cond (ltb 0 now.n) before Absent
output_as Integrator p now x y before = Value p.state.held
output_as ResetIntegrator p now x y before = first_present y (Value p.state.held)
output_as Detector p now x y before = mark_signal p.state.mark
output_as Hold p now x y before = first_present x p.state.signal
output_as Sampler p now x y before = sampled x y
output_as Drive p now x y before = Value p.state.held
output_as Clapper p now x y before = Value p.state.held

-- the output of a part, by its kind
unfoldable pub output : Part → Point → (x y before : Signal) → Signal
output p = output_as p.component.kind p

-- "On a step, kinds 6, 7, 11 take held := clamp(held + x × d)", and request 2's clapper "clamp(position + new speed ×
-- d)": the kinds that hold a number, which starts at a
abbrev pub integrates : Kind → Bool
integrates Constant = false
integrates Gain = false
integrates Adder = false
integrates Square = false
integrates Pulse = false
integrates Delay = false
integrates Integrator = true
integrates ResetIntegrator = true
integrates Detector = false
integrates Hold = false
integrates Sampler = false
integrates Drive = true
integrates Clapper = true

-- request 2, "Kind 12 holds a position (starting at a) and a speed (starting at b)": the kinds that hold a speed too
abbrev pub has_mass : Kind → Bool
has_mass Constant = false
has_mass Gain = false
has_mass Adder = false
has_mass Square = false
has_mass Pulse = false
has_mass Delay = false
has_mass Integrator = false
has_mass ResetIntegrator = false
has_mass Detector = false
has_mass Hold = false
has_mass Sampler = false
has_mass Drive = false
has_mass Clapper = true

-- a side: "A detector sees its input as negative or not negative", and "Its side then becomes the input's; an absent
-- input keeps it". Request 1: "The trade now counts zero as the side held before. A detector whose side is unset stays
-- unset at zero." So zero keeps the side too, and not negative is positive
unfoldable pub side_after : Side → Signal → Side
side_after s Absent = s
side_after s (Value (negsuc n)) = Negative
side_after s (Value (pos zero)) = s
side_after s (Value (pos (suc n))) = Positive

-- the mark, by the sides before and after: 1 (now "not negative": positive), −1, or none where they are the same or
-- either is unset
abbrev pub mark_between : Side → Side → Mark
mark_between Unset s = Clear
mark_between Negative Unset = Clear
mark_between Negative Negative = Clear
mark_between Negative Positive = Rising
mark_between Positive Unset = Clear
mark_between Positive Negative = Falling
mark_between Positive Positive = Clear

-- "If present and of another side than its last, the mark becomes 1 (now not negative) or −1; otherwise none"
unfoldable pub mark_after : Side → Signal → Mark
mark_after s x = mark_between s (side_after s x)
