-- What reading keeps of the last part, where a Span may follow. Assumes nothing.
use Rattle.std.specs.Prelude.{ℕ, ◌≤◌, ◌<◌, ◌≡◌, refl, Bool, true, false, cond, List, length}
use Rattle.std.proofs.Common.{arith}
use Rattle.machine.specs.Model.{blank_component}
use Rattle.machine.specs.Table.{component_at}
use Rattle.machine.specs.Load.{is_drive, known_command}
use Rattle.laws.specs.ListLaws.{all_at}
use Rattle.sound_laws.specs.Facts.{ComponentFits}
use Rattle.sound_laws.specs.Accepted.{Readable}
use Rattle.load_commands.specs.declared.progress.Progress.{Progress}
use Rattle.load_commands.specs.Progress.{with_row, reading_of}
use Rattle.load_operands.specs.Refusals.{command_number, in_its_place}
use Rattle.load_commands.specs.SpanRows.{length_reading, reading_at}
use Rattle.load_commands.specs.Spanned.{last_place, span_count}
use Rattle.load_table.specs.Turning.{Spannable}

-- a Span that is in place follows a drive or its span
span_placed : (begun spannable : Bool) (b : ℕ) → b ≡ 3 → command_number begun spannable b ≡ 0 → spannable ≡ true
unfolding command_number in_its_place known_command
span_placed true true b e h = refl
span_placed true false b e h = absurd (omega (arith, rw e at h))
span_placed false spannable b e h = absurd (omega (arith, rw e at h))

-- the last part counts as many spans as in the reading
pub counts_as : (progress : Progress) (rows : List (List ℕ)) → 0 < progress.count →
    progress.count ≤ length progress.parts →
    (component_at (reading_of progress rows).table.parts (last_place progress)).span_count ≡ span_count progress
unfolding with_row
counts_as progress rows some few =
    let here : last_place progress < progress.count = omega arith in
    rw (reading_at progress rows (last_place progress) here few)

-- places of a drive or another
places_most : (drive : Bool) (n : ℕ) → n ≤ cond drive 8 0 → n ≤ 8
places_most true n h = h
places_most false n h = omega arith

-- what a Span asks for holds where it is in place
pub span_asked : (progress : Progress) (rows : List (List ℕ)) (b : ℕ) → progress.count ≤ length progress.parts →
    Readable (reading_of progress rows) →
    command_number progress.begun progress.spannable b ≡ 0 → b ≡ 3 → Spannable progress
unfolding reading_of
span_asked progress rows b few kept none e =
    let cs = (reading_of progress rows).table.parts in
    let many = length_reading progress rows few in
    let (more, drive) = kept.drive (span_placed progress.begun progress.spannable b e none) in
    let some : 0 < progress.count = omega arith in
    let here : last_place progress < length cs = omega arith in
    let fits = all_at (ComponentFits (length cs)) cs blank_component (last_place progress) kept.components here in
    let counted = fits.counted in
    let last = component_at cs (last_place progress) in
    let most = places_most (is_drive last.kind) (length last.spans) fits.places in
    let same = counts_as progress rows some few in
    record { some = some; within = omega arith }
