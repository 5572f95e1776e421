-- The model of a load that is refused: "'No model' is a model of no parts with all else 0", in all of its places.
-- Assumes nothing.
use Rattle.std.specs.Prelude.{◌≡◌, refl, replicate}
use Rattle.machine.specs.declared.part.Part.{Part}
use Rattle.machine.specs.declared.model.Model.{Model}
use Rattle.machine.specs.Time.{start}
use Rattle.machine.specs.Model.{most_parts, blank_state, no_model, trimmed}
use Rattle.load_table.specs.Concluded.{empty_component}

-- a part with all of it 0, its places for spans among it
unfoldable pub blank_place : Part
blank_place =
    record {
      component = empty_component;
      ratio = 0;
      state = blank_state;
    }

-- a model with all of it 0
unfoldable pub blank_model : Model
blank_model =
    record {
      magnitude = 0;
      count = 0;
      order = replicate most_parts 0;
      point = start;
      parts = replicate most_parts blank_place;
    }

-- once its unused places are cut away, it is no model
pub blank_trimmed : trimmed blank_model ≡ no_model
unfolding trimmed blank_model no_model
blank_trimmed = refl
