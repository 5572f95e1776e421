-- What a progress and the rows of spans with it mean: document 01's table as far as it has been read. Assumes nothing.
use Rattle.std.specs.Prelude.{ℕ, List, [], ◌∷◌, take}
use Rattle.machine.specs.declared.part.Component.{Component}
use Rattle.machine.specs.Load.{Reading}
use Rattle.load_commands.specs.declared.progress.Progress.{Progress}

-- a component with its spans: as many places of its row as it counts
unfoldable pub with_row : Component → List ℕ → Component
with_row c row =
    record {
      kind = c.kind;
      preference = c.preference;
      a = c.a;
      b = c.b;
      p = c.p;
      span_count = c.span_count;
      spans = take c.span_count row;
      port0 = c.port0;
      port1 = c.port1;
    }

-- components with their rows, in order; where no row is left, with no spans
unfoldable pub joined : List Component → List (List ℕ) → List Component
joined [] rows = []
joined (c ∷ cs) [] = with_row c [] ∷ joined cs []
joined (c ∷ cs) (row ∷ rows) = with_row c row ∷ joined cs rows

-- the table as far as it has been read
unfoldable pub reading_of : Progress → List (List ℕ) → Reading
reading_of progress rows =
    record {
      begun = progress.begun;
      spannable = progress.spannable;
      table = record {
        magnitude = progress.magnitude;
        parts = joined (take progress.count progress.parts) rows;
      };
    }
