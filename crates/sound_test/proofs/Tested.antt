-- Words that spell a model spell a sound one where the model passes the tests one by one: after the tests that hold,
-- the answer is the next one and those after it. Assumes nothing.
use Rattle.std.specs.Prelude.{ℕ, ◌≤◌, ◌<◌, ◌≡◌, refl, Bool, true, false, ◌&&◌, List}
use Rattle.std.proofs.Common.{sym, ◌∙◌}
use Rattle.machine.specs.declared.time.Point.{Point}
use Rattle.machine.specs.Time.{in_time, magnitude_known}
use Rattle.machine.specs.Model.{trimmed}
use Rattle.machine.specs.Table.{table_of, magnitude_of}
use Rattle.machine.specs.Sound.{sound}
use Rattle.words_store.specs.ModelIn.{model_in, part_count, stored_point}
use Rattle.words_store.specs.Form.{spelled}
use Rattle.words_store.specs.Spelling.{spelled_few}
use Rattle.sound_test.specs.declared.survey.Survey.{Survey}
use Rattle.sound_test.specs.LentSurveyed.{LentSurveyed}
use Rattle.sound_test.specs.Whole.{parts_hold, magnitude_holds, magnitude_by}
use Rattle.sound_test.specs.LentWhole.{lent_none, by_point}

module _ (ts ss : List ℕ) (spells : spelled ts ss ≡ true) where
  -- the answer
  abbrev pub whole : Bool
  whole = spelled ts ss && sound (trimmed (model_in ts ss))

  -- of a table of no parts
  pub no_parts : part_count ts < 1 → false ≡ whole
  no_parts none = sym (rw (spells, lent_none ts ss none) refl)

  -- of a table of some, whose point is in time or not
  pub by_time : (now : Point) (time : Bool) → 1 ≤ part_count ts → now ≡ stored_point ss → time ≡ in_time now →
      whole ≡ (time && magnitude_holds (part_count ts) (magnitude_of (table_of (trimmed (model_in ts ss))))
      (trimmed (model_in ts ss)))
  by_time now time some is e = rw spells (by_point ts ss now time some (spelled_few ts ss spells) is e)

  -- where it is, of a survey whose magnitude is known or not
  pub by_magnitude : (now : Point) (r : Survey) (known : Bool) → 1 ≤ part_count ts → now ≡ stored_point ss →
      true ≡ in_time now → LentSurveyed ts r → known ≡ magnitude_known r.magnitude →
      whole ≡ (known && parts_hold (part_count ts) r.magnitude (trimmed (model_in ts ss)))
  by_magnitude now r known some is e surveyed k =
      by_time now true some is e ∙
      magnitude_by (part_count ts) r.magnitude (trimmed (model_in ts ss)) known (surveyed.magnitude ss) k
