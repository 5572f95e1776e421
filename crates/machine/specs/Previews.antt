-- Document 02, request 3: what a preview promises, lists of calls in which previews are among advances, and "Previews
-- put anywhere into a list of advances alter none of its results" as one statement about such a list. It speaks of any
-- list, so that it can be false of one. Assumes nothing.
use Rattle.std.specs.Prelude.{ℕ, ◌≡◌, List, [], ◌∷◌}
use Rattle.machine.specs.declared.model.Model.{Model}
use Rattle.machine.specs.declared.model.Answer.{Answer}
use Rattle.machine.specs.declared.model.Preview.{Preview}
use Rattle.machine.specs.Model.{trimmed_answer}
use Rattle.machine.specs.Advance.{advance}
use Rattle.machine.specs.Calls.{Advanced, Call, Chain, last_model}

-- what the call `preview` promises of what it returns, for every model m and wanted step w: "The given model is
-- unchanged", the very struct; and its answer is one that `advance` could give: "the same number, step, rounds,
-- revisions, ceiling and outputs as an advance on a copy"
pub record Previewed (m : Model) (w : ℕ) (r : Preview) : Type 0 where
  pub unchanged : r.given ≡ m
  pub answer : Advanced m w r.answer

-- a preview in a list: the model that it was given, the wanted step, and what it returned
pub record PreviewCall : Type 0 where
  pub given : Model
  pub wanted : ℕ
  pub returned : Preview

-- a call of a list: an advance or a preview
pub data AnyCall : Type 0 where
  Advancing : Call → AnyCall
  Previewing : PreviewCall → AnyCall

-- a chain of such calls from m: an advance hands on its answer's model, a preview the model that it returned as the
-- given one
abbrev pub MixedChain : Model → List AnyCall → Type 0
MixedChain m [] = Unit {0}
MixedChain m (Advancing c ∷ cs) = (c.given ≡ m) × Advanced c.given c.wanted c.answer ×
    MixedChain c.answer.model cs
MixedChain m (Previewing p ∷ cs) = (p.given ≡ m) × Previewed p.given p.wanted p.returned ×
    MixedChain p.returned.given cs

-- the advances of a list, alone
unfoldable pub advances : List AnyCall → List Call
advances [] = []
advances (Advancing c ∷ cs) = c ∷ advances cs
advances (Previewing p ∷ cs) = advances cs

-- the model that a list hands on at its end, m where there is no call
unfoldable pub handed_on : Model → List AnyCall → Model
handed_on m [] = m
handed_on m (Advancing c ∷ cs) = handed_on c.answer.model cs
handed_on m (Previewing p ∷ cs) = handed_on p.returned.given cs

-- each preview has the answer that an advance in its place would have had: one of the model that the advances before it
-- lead to
abbrev pub AnsweredInPlace : Model → List AnyCall → Type 0
AnsweredInPlace m [] = Unit {0}
AnsweredInPlace m (Advancing c ∷ cs) = AnsweredInPlace c.answer.model cs
AnsweredInPlace m (Previewing p ∷ cs) = Advanced m p.wanted p.returned.answer × AnsweredInPlace m cs

-- "Previews put anywhere into a list of advances alter none of its results": the advances alone are a chain from the
-- same model, with the answers that they have in the list; they lead to the model that the list leads to; and each
-- preview is answered as an advance in its place
pub record Unaltered (m : Model) (cs : List AnyCall) : Type 0 where
  pub chain : Chain m (advances cs)
  pub last : last_model m (advances cs) ≡ handed_on m cs
  pub previews : AnsweredInPlace m cs

-- the wanted steps of a list of advances, its results, which are the answers, trimmed, and the machine's own answers to
-- wanted steps
unfoldable pub wanted_steps : List Call → List ℕ
wanted_steps [] = []
wanted_steps (c ∷ cs) = c.wanted ∷ wanted_steps cs

unfoldable pub results : List Call → List Answer
results [] = []
results (c ∷ cs) = trimmed_answer c.answer ∷ results cs

unfoldable pub machine_answers : Model → List ℕ → List Answer
machine_answers m [] = []
machine_answers m (w ∷ ws) = advance m w ∷ machine_answers (advance m w).model ws
