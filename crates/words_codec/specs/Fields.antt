-- The laws of the words of fields: the word of a value is at most the largest that a value has, and is read back as the
-- value. Assumes nothing.
use Rattle.std.specs.Prelude.{ℕ, ◌+◌, ◌-◌, ◌%◌, ◌≤◌, ◌≡◌, refl, ℤ, pos, negsuc}
use Rattle.std.proofs.Common.{arith, ap, lt-ltb, le-ltb, ne_eqb}
use Rattle.machine.specs.declared.part.Kind.{Kind}
use Rattle.machine.specs.declared.part.Kind.TheVariants.{Constant, Gain, Adder, Square, Pulse, Delay, Integrator}
use Rattle.machine.specs.declared.part.Kind.TheVariants.{ResetIntegrator, Detector, Hold, Sampler, Drive, Clapper}
use Rattle.machine.specs.declared.signal.Signal.{Signal}
use Rattle.machine.specs.declared.signal.Signal.TheVariants.{Absent, Value}
use Rattle.machine.specs.declared.part.Source.{Source}
use Rattle.machine.specs.declared.part.Source.TheVariants.{Unwired, From}
use Rattle.machine.specs.declared.part.Side.{Side}
use Rattle.machine.specs.declared.part.Side.TheVariants.{Unset, Negative, Positive}
use Rattle.machine.specs.declared.part.Mark.{Mark}
use Rattle.machine.specs.declared.part.Mark.TheVariants.{Clear, Rising, Falling}
use Rattle.machine.specs.Kind.{kind_number, kind_of}
use Rattle.words_codec.specs.Words.{encode_signed, decode_signed}
use Rattle.words_codec.specs.Encoded.{encode_source, encode_side, encode_mark, encode_presence, encode_value}
use Rattle.words_codec.specs.Decoded.{decode_source, decode_side, decode_mark, decode_signal}
use Rattle.words_codec.specs.Sized.{FitsSigned, FitsSignal, FitsSource, FitsWord}

-- a number of 64 bits without a sign, which is its own word
pub word_limit : (n : ℕ) → FitsWord n → n ≤ 18446744073709551615
word_limit n h = omega arith

-- a signed number of 64 bits
pub signed_limit : (z : ℤ) → FitsSigned z → encode_signed z ≤ 18446744073709551615
unfolding encode_signed
signed_limit (pos n) h = omega arith
signed_limit (negsuc n) h = omega arith

pub signed_same : (z : ℤ) → FitsSigned z → decode_signed (encode_signed z) ≡ z
unfolding encode_signed decode_signed
signed_same (pos n) h = rw (lt-ltb n 9223372036854775808 h) refl
signed_same (negsuc n) h =
    let high : 9223372036854775808 ≤ 18446744073709551615 - n = omega arith in
    let back : 18446744073709551615 - (18446744073709551615 - n) ≡ n = omega arith in
    rw (le-ltb (18446744073709551615 - n) 9223372036854775808 high, back) refl

-- a kind
pub kind_limit : (k : Kind) → kind_number k ≤ 12
kind_limit Constant = omega arith
kind_limit Gain = omega arith
kind_limit Adder = omega arith
kind_limit Square = omega arith
kind_limit Pulse = omega arith
kind_limit Delay = omega arith
kind_limit Integrator = omega arith
kind_limit ResetIntegrator = omega arith
kind_limit Detector = omega arith
kind_limit Hold = omega arith
kind_limit Sampler = omega arith
kind_limit Drive = omega arith
kind_limit Clapper = omega arith

pub kind_same : (k : Kind) → kind_of (kind_number k) ≡ k
unfolding kind_of
kind_same Constant = refl
kind_same Gain = refl
kind_same Adder = refl
kind_same Square = refl
kind_same Pulse = refl
kind_same Delay = refl
kind_same Integrator = refl
kind_same ResetIntegrator = refl
kind_same Detector = refl
kind_same Hold = refl
kind_same Sampler = refl
kind_same Drive = refl
kind_same Clapper = refl

-- a port
pub source_limit : (s : Source) → FitsSource s → encode_source s ≤ 65536
source_limit Unwired fits = omega arith
source_limit (From k) fits = omega arith

pub source_same : (s : Source) → FitsSource s → decode_source (encode_source s) ≡ s
unfolding decode_source
source_same Unwired fits = refl
source_same (From k) fits =
    let back : (k + 1 - 1) % 65536 ≡ k = omega arith in
    rw (ne_eqb (k + 1) 0 (λ e. omega arith), back) refl

-- a side
pub side_limit : (s : Side) → encode_side s ≤ 2
side_limit Unset = omega arith
side_limit Negative = omega arith
side_limit Positive = omega arith

pub side_same : (s : Side) → decode_side (encode_side s) ≡ s
unfolding decode_side
side_same Unset = refl
side_same Negative = refl
side_same Positive = refl

-- a mark
pub mark_limit : (m : Mark) → encode_mark m ≤ 2
mark_limit Clear = omega arith
mark_limit Rising = omega arith
mark_limit Falling = omega arith

pub mark_same : (m : Mark) → decode_mark (encode_mark m) ≡ m
unfolding decode_mark
mark_same Clear = refl
mark_same Rising = refl
mark_same Falling = refl

-- a signal, of two words; its value's word is 0 unless its code says that there is a value
pub signal_limit : (s : Signal) → encode_presence s ≤ 1
signal_limit Absent = omega arith
signal_limit (Value v) = omega arith

pub value_limit : (s : Signal) → FitsSignal s → encode_value s ≤ 18446744073709551615
value_limit Absent fits = omega arith
value_limit (Value v) fits = signed_limit v fits

pub signal_same : (s : Signal) → FitsSignal s → decode_signal (encode_presence s) (encode_value s) ≡ s
unfolding decode_signal
signal_same Absent fits = refl
signal_same (Value v) fits = ap Value (signed_same v fits)

pub value_clean : (s : Signal) → (encode_presence s ≡ 1 → ⊥) → encode_value s ≡ 0
value_clean Absent absent = refl
value_clean (Value v) absent = absurd (absent refl)
