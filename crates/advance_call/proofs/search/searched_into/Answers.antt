-- `searched_into` is the search on words: a round lowers h or changes nothing; after one that changes nothing the step
-- is refused, or made on trial, and dropped where a part objects to it.
use Rattle.std.proofs.Common.{◌≡◌, arith, ℕ, ◌+◌, ◌<◌, ◌≤◌, true, List, refl, sym, ap, subst, ◌∙◌}
use Rattle.machine.specs.Model.{trimmed}
use Rattle.machine.specs.Step.{step_made}
use Rattle.machine.specs.Advance.{any_objects, round}
use Rattle.ask_laws.specs.Agreed.{Agreed, round_agreed, agreed_below}
use Rattle.ask_parts.specs.Trials.{any_objects_settled, objects_made}
use Rattle.refusals.specs.Numbers.{refused_number}
use Rattle.refusals.specs.Told.{some_number}
use Rattle.step_parts.specs.StepShown.{Settleable, settled_made, shown_settleable}
use Rattle.words_store.specs.ModelIn.{part_count, model_in}
use Rattle.words_store.specs.Clean.{kept_after}
use Rattle.words_store.specs.Updated.{SameBehind}
use Rattle.words_store.specs.StoreFrame.{behind_none, behind_through, behind_copied, copied_spelled, held_copied}
use Rattle.advance_call.specs.Into.{lent_model}
use Rattle.advance_call.specs.IntoLaws.{searched_words}
use Rattle.advance_call.specs.Searching.{refusal, Left, left_start, lowered, lower_below, halved, halve_above, may_step}
use Rattle.advance_call.specs.Searching.{refused_answer, committed_answer}
use Rattle.advance_call.proofs.search.searched_into.Goals as goal
use Rattle.advance_call.proofs.search.searched_into.Goals.{After-least_in-least, After-trial_into}
use Rattle.advance_call.proofs.search.searched_into.Goals.{After-any_objects_in}

-- the words after the new state's are kept before the outer loop's round, in it, and by what follows
behind_all : (n : ℕ) (a b c d : List ℕ) → SameBehind n a b → SameBehind n b c → SameBehind n c d → SameBehind n a d
behind_all n a b c d first second third =
    behind_through n a c d (behind_through n a b c first second) third

-- a round that changed h lowered it
changed : (c : After-least_in-least) → (c.least_in-least.result.0 ≡ c.loop-h.h → ⊥) →
    round (lent_model c.args.table.now c.args.old.now) c.loop-h.h ≡ c.loop-h.h → ⊥
changed c other same = other (c.least_in-least.ensures ∙ same)

lowers : (c : After-least_in-least) → (c.least_in-least.result.0 ≡ c.loop-h.h → ⊥) →
    c.least_in-least.result.0 < c.loop-h.h
lowers c other =
    rw c.least_in-least.ensures
    (lower_below (lent_model c.args.table.now c.args.old.now) c.requires.sounds c.loop-h.h (changed c other))

-- one that changed nothing, and its step, which is not refused
kept : (c : After-trial_into) → round (lent_model c.args.table.now c.args.old.now) c.loop-h.h ≡ c.loop-h.h
kept c = sym c.least_in-least.ensures ∙ c.if-least-h.true

made : (c : After-trial_into) → refusal (lent_model c.args.table.now c.args.old.now) c.loop-h.h ≡ 0
made c = sym c.refusal_in.ensures ∙ ap refused_number c.in_default.is

-- the trial can be settled
settleable : (c : After-trial_into) → Settleable (lent_model c.args.table.now c.trial_into.new.new)
settleable c =
    subst Settleable (sym c.trial_into.ensures.shown)
    (shown_settleable (lent_model c.args.table.now c.args.old.now) c.loop-h.h c.requires.sounds)

-- whether a part objects to the trial is whether one objects to the step made
objects_tried :
    (c : After-any_objects_in) →
    let m = lent_model c.args.table.now c.args.old.now in
    any_objects c.loop-h.h (step_made m c.loop-h.h) ≡ c.any_objects_in.result
objects_tried c =
    let h = c.loop-h.h in
    objects_made (lent_model c.args.table.now c.args.old.now) h h ∙
    ap (any_objects_settled h) (sym c.trial_into.ensures.shown) ∙
    sym c.any_objects_in.ensures

-- the step to which one objects is one of at least 2
halves : (c : After-any_objects_in) → c.any_objects_in.result ≡ true → 2 ≤ c.loop-h.h
halves c objects =
    halve_above (lent_model c.args.table.now c.args.old.now) c.requires.sounds c.loop-h.h
    (sym c.least_in-least.ensures ∙ c.if-least-h.true) (sym c.refusal_in.ensures ∙ ap refused_number c.in_default.is)
    (objects_tried c ∙ objects)

pub ceilings-init : goal.ceilings-init
ceilings-init c = (left_start _ _, omega arith, omega arith, behind_none _ _, λ some. absurd (omega arith))

pub trial_into-requires-clause-microstep_left : goal.trial_into-requires-clause-microstep_left
trial_into-requires-clause-microstep_left c =
    may_step (model_in c.args.table.now c.args.old.now) c.requires.sounds c.loop-h.h
    (sym c.refusal_in.ensures ∙ ap refused_number c.in_default.is)

pub any_objects_in-requires-clause-settleable : goal.any_objects_in-requires-clause-settleable
any_objects_in-requires-clause-settleable c =
    settleable (goal.at.any_objects_in-requires-clause-settleable c).After-trial_into

pub settled_into-requires-clause-wired : goal.settled_into-requires-clause-wired
settled_into-requires-clause-wired c =
    (settleable (goal.at.settled_into-requires-clause-wired c).After-trial_into).wired

pub loop-h-smaller : goal.loop-h-smaller
loop-h-smaller c = lowers (goal.at.loop-h-smaller c).After-least_in-least c.if-least-h.false

pub loop-h-preserved : goal.loop-h-preserved
loop-h-preserved c =
    let at = (goal.at.loop-h-preserved c).After-least_in-least in
    let m = lent_model c.args.table.now c.args.old.now in
    let l = c.loop-h in
    let below = lowers at c.if-least-h.false in (
      subst (λ (n : ℕ). Left m c.args.w c.ceilings.ceiling n (l.rounds + 1) c.ceilings.revisions)
          (sym c.least_in-least.ensures)
          (lowered m c.requires.sounds c.args.w c.ceilings.ceiling l.h l.rounds c.ceilings.revisions l.invariant.0
          (changed at c.if-least-h.false)),
      omega (arith, below, l.invariant.1),
      omega (arith, below, l.invariant.2),
      omega (arith, below, l.invariant.3),
      l.invariant.4,
      λ some. subst (Agreed m) (sym c.least_in-least.ensures) (round_agreed m l.h),
    )

pub ceilings-smaller : goal.ceilings-smaller
ceilings-smaller c =
    let two = halves (goal.at.ceilings-smaller c).After-any_objects_in c.if-any_objects_in.true in
    omega (arith, two, c.loop-h.invariant.3)

pub ceilings-preserved : goal.ceilings-preserved
ceilings-preserved c =
    let at = goal.at.ceilings-preserved c in
    let m = lent_model c.args.table.now c.args.old.now in
    let l = c.loop-h in
    let two = halves at.After-any_objects_in c.if-any_objects_in.true in
    let same = kept at.After-trial_into in (
      halved m c.requires.sounds c.args.w c.ceilings.ceiling l.h l.rounds c.ceilings.revisions l.invariant.0 same
          (made at.After-trial_into) (objects_tried at.After-any_objects_in ∙ c.if-any_objects_in.true),
      omega (arith, two, l.invariant.1),
      omega (arith, two, l.invariant.2),
      behind_all _ c.args.new.now c.ceilings.new l.new c.trial_into.new.new c.ceilings.invariant.3 l.invariant.4
          c.trial_into.ensures.behind,
      λ some. agreed_below m l.h _ (subst (Agreed m) same (round_agreed m l.h)) (omega arith),
    )

pub returns-in-Err : goal.returns-in-Err
returns-in-Err c =
    let ts = c.args.table.now in
    let os = c.args.old.now in
    let l = c.loop-h in
    let b = c.kept_in.new.new in
    let same = sym c.least_in-least.ensures ∙ c.if-least-h.true in
    let told = c.number.ensures ∙ sym (ap refused_number c.in-Err.is) ∙ c.refusal_in.ensures in
    let other : c.number.result ≡ 0 → ⊥ = λ z. some_number c.in-Err.refusal (sym c.number.ensures ∙ z) in
    searched_words ts os c.args.new.now b c.args.w _
    (refused_answer (model_in ts os) c.requires.sounds c.args.w c.ceilings.ceiling l.h l.rounds c.ceilings.revisions
    c.number.result l.invariant.0 same told other)
    (omega arith) (sym (ap trimmed (held_copied ts os l.new b c.kept_in.ensures)))
    (copied_spelled (part_count ts) os l.new b c.kept_in.ensures c.requires.spelled)
    (behind_all _ c.args.new.now c.ceilings.new l.new b c.ceilings.invariant.3 l.invariant.4
    (behind_copied (part_count ts) os l.new b c.kept_in.ensures c.requires.spelled))
    (λ none. absurd (other none)) (λ refused. c.kept_in.ensures.front)

pub returns-else-any_objects_in : goal.returns-else-any_objects_in
returns-else-any_objects_in c =
    let at = goal.at.returns-else-any_objects_in c in
    let ts = c.args.table.now in
    let os = c.args.old.now in
    let h = c.loop-h.h in
    let trial = c.trial_into.new.new in
    let b = c.settled_into.new.new in
    let step = settled_made (lent_model ts os) (model_in ts trial) (model_in ts b) h c.trial_into.ensures.shown
    c.settled_into.ensures.settled in
    searched_words ts os c.args.new.now b c.args.w _
    (committed_answer (model_in ts os) c.requires.sounds (model_in ts b) c.args.w c.ceilings.ceiling h c.loop-h.rounds
    c.ceilings.revisions c.loop-h.invariant.0 (kept at.After-trial_into) (made at.After-trial_into)
    (ap (any_objects h) step ∙ objects_tried at.After-any_objects_in ∙ c.if-any_objects_in.false) step)
    (omega arith) refl (λ j low. c.settled_into.ensures.behind.form j (c.trial_into.ensures.form j low))
    (behind_all _ c.args.new.now c.loop-h.new trial b
    (behind_through (part_count ts) c.args.new.now c.ceilings.new c.loop-h.new c.ceilings.invariant.3
    c.loop-h.invariant.4)
    c.trial_into.ensures.behind c.settled_into.ensures.behind)
    (λ none. kept_after (part_count ts) os trial b c.trial_into.ensures.clean
    (λ j low. c.settled_into.ensures.signals j))
    (λ other. absurd (other refl))
