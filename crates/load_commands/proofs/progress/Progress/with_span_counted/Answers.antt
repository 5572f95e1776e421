-- `with_span_counted` replaces a part by itself with one span more counted; with the span in its row it is the
-- definition's part with a span more.
use Prim.Native.Nat.{ℕ, ◌+◌, ◌<◌, ◌≤◌}
use native.Mathlib.Numerals.{add-one}
use native.Mathlib.Omega.{arith}
use mathlib.Core.Path.{◌≡◌}
use mathlib.Core.Bool.{true}
use mathlib.Core.List.{List, []}
use lib.ListN.{length, get_or, take, set}
use lib.Seq.{take-set-lt, take-suc-set}
use Rattle.machine.specs.declared.part.Component.{Component}
use Rattle.machine.specs.Table.{component_at}
use Rattle.machine.specs.Load.{Reading, with_component, with_span}
use Rattle.load_commands.specs.declared.progress.Progress.{Progress}
use Rattle.load_commands.specs.Progress.{joined, with_row, reading_of}
use Rattle.load_commands.specs.SpanRows.{joined_set_row, reading_at}
use Rattle.load_commands.specs.Spanned.{row_with, spanned_reading}
use Rattle.load_commands.proofs.progress.Progress.with_span_counted.Goals as goal

-- a component with one span more counted
abbrev counted : Component → Component
counted c =
    record {
      kind = c.kind;
      preference = c.preference;
      a = c.a;
      b = c.b;
      p = c.p;
      span_count = c.span_count + 1;
      spans = c.spans;
      port0 = c.port0;
      port1 = c.port1;
    }

-- with the span in its row it is the component with a span more
row_span : (c : Component) (row : List ℕ) (v : ℕ) → c.span_count < length row →
    with_row (counted c) (set row c.span_count v) ≡ with_span (with_row c row) v
unfolding with_row with_span
row_span c row v here = rw (add-one c.span_count, take-suc-set row c.span_count v here)

-- the part replaced by itself with one span more
spanned_as : (progress : Progress) (k : ℕ) → k < progress.count → progress.count ≤ length progress.parts →
    (rows : List (List ℕ)) (v : ℕ) →
    k < length rows → (component_at progress.parts k).span_count < length (get_or rows k []) →
    ◌≡◌ {A = Reading}
    (record {
      begun = true;
      spannable = true;
      table = record {
        magnitude = progress.magnitude;
        parts =
            joined (take progress.count (set progress.parts k (counted (component_at progress.parts k))))
            (row_with rows k (component_at progress.parts k).span_count v);
      };
    })
    (spanned_reading (reading_of progress rows) k v)
unfolding reading_of row_with spanned_reading with_component
spanned_as progress k here few rows v there room =
    let part = component_at progress.parts k in
    rw (
      take-set-lt progress.count progress.parts k (counted part) here,
      joined_set_row (take progress.count progress.parts) rows k (counted part)
          (set (get_or rows k []) part.span_count v) there,
      reading_at progress rows k here few,
      row_span part (get_or rows k []) v room,
    )

pub returns : goal.returns
unfolding reading_of
returns c =
    let progress = c.args.self in
    let few : progress.count ≤ length progress.parts = omega (arith, progress.few) in
    spanned_as progress c.args.k c.requires.read few
