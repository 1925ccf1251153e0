-- From one point of a history on, while no other comes up, a master makes the steps that the deeds are.
use Rattle.std.proofs.Common.{◌≡◌, ℕ, List, [], ◌∷◌, ◌++◌, Bool, true, false, Option, Some, None, refl, sym, ap, ◌∙◌, subst}
use Rattle.std.specs.Prelude.{◌||◌, fold}
use Rattle.std.specs.Option.{option_map_or}
use Rattle.std.specs.List.{list_all, list_any}
use Rattle.std.proofs.lemmas.List.Sums.{fold-append}
use Rattle.node_core.specs.declared.lines.Line.{Line}
use Rattle.tags_cell.specs.declared.messages.requests.Request.{Request}
use Rattle.master_state.specs.State.{MasterState}
use Rattle.cell_core.specs.Step.{take_step}
use Rattle.over_core.specs.Sweep.{sweep_step, beats_step}
use Rattle.world_steps.specs.declared.mail.Message.{Message}
use Rattle.world_steps.specs.Messages.{request_at}
use Rattle.master_laws.specs.Closed.{MasterStep, master_behind}
use Rattle.master_laws.specs.Closed.MasterStep.{Takes as TakesOne, Sweeps as SweepsOnce, Beats as AnswersOne}
use Rattle.master_laws.specs.Waits.{is_of_client}
use Rattle.history_laws.specs.Parts.{Parts, Deed, ComesUp, FallsComingUp, Takes, Sweeps, FallsSweeping, AnswersBeat, Goes, Begins, Asks, Beats, Hears}
use Rattle.history_laws.specs.Histories.{Clocks, Entry, Does, History, begins_life}
use Rattle.history_laws.specs.ComeUp.{Since, up_at, and_then, takes_told, deed_since, entry_since, since_in, MastersGoOn}
use Rattle.history_laws.proofs.ComeUp.{all_joined, is_behind, of_client, sees_on, masters_have}

neither : (a b : Bool) → (a || b) ≡ false → (a ≡ false) × (b ≡ false)
neither true b h = cc
neither false b h = (refl, h)

-- this master, by these steps
record IsFrom (s : MasterState) (since : Since) (new : MasterState) : Type 0 where
  of_clients : list_all is_of_client since.steps ≡ true
  is : new ≡ fold master_behind s since.steps

abbrev IfFrom : MasterState → Since → Option MasterState → Type 0
IfFrom s since None = Unit {0}
IfFrom s since (Some new) = IsFrom s since new

that_from : (s : MasterState) (since : Since) (m : Option MasterState) (new : MasterState) → m ≡ Some new → IfFrom s since m → IsFrom s since new
that_from s since None new up h = cc
that_from s since (Some other) new up h = let is : other ≡ new = cc in subst (IsFrom s since) is h

further : (s : MasterState) (since : Since) (mid new : MasterState) (more : List MasterStep) → IsFrom s since mid → list_all is_of_client more ≡ true → new ≡ fold master_behind mid more → IsFrom s (and_then since more) new
further s since mid new more h of_clients is = record {
  of_clients = all_joined is_of_client since.steps more h.of_clients of_clients;
  is = is ∙ ap (λ (m : MasterState). fold master_behind m more) h.is ∙ sym (fold-append master_behind s since.steps more);
}

module _ (s : MasterState) (told : List Message) (p : Parts) (clocks : Clocks) (since : Since) (sees : (at : ℕ) (r : Request) → request_at p.told at ≡ Some r → request_at told at ≡ Some r) (h : IfFrom s since p.master) where
  abbrev now : ℕ
  now = clocks.master

  abbrev After : Deed → Parts → Type 0
  After deed new = IfFrom s (deed_since told since now deed) new.master

  deed_from : (deed : Deed) (new : Parts) (printed : List Line) → begins_life deed ≡ false → Does p clocks deed new printed → After deed new
  deed_from ComesUp new printed not t = cc
  deed_from FallsComingUp new printed not t = cc
  deed_from (Takes at) new printed not t =
      let P : Option Request → Type 0 = λ o. IsFrom s (and_then since (option_map_or (λ request. TakesOne now request ∷ []) o [])) t.next in
      let mine : P (Some t.request) =
      further s since t.master t.next (TakesOne now t.request ∷ []) (that_from s since p.master t.master t.up h) (of_client now t.request t.numbered) (is_behind t.master t.next t.taken (take_step t.master now t.request) t.step) in
      subst (After (Takes at)) (sym t.left) (subst P (sym (sees at t.request t.was_told)) mine)
  deed_from Sweeps new printed not t =
      subst (After Sweeps) (sym t.left) (further s since t.master t.next (SweepsOnce now ∷ []) (that_from s since p.master t.master t.up h) refl (is_behind t.master t.next t.swept (sweep_step t.master now) t.step))
  deed_from FallsSweeping new printed not t = subst (After FallsSweeping) (sym t.left) tt
  deed_from AnswersBeat new printed not t =
      subst (After AnswersBeat) (sym t.left) (further s since t.master t.next (AnswersOne now ∷ []) (that_from s since p.master t.master t.up h) refl (is_behind t.master t.next t.swept (beats_step t.master now) t.step))
  deed_from Goes new printed not t = subst (After Goes) (sym t.left) tt
  deed_from (Begins number principal) new printed not t = subst (After (Begins number principal)) (sym t.left) h
  deed_from (Asks number ask) new printed not t = subst (After (Asks number ask)) (sym t.left) h
  deed_from (Beats number) new printed not t = subst (After (Beats number)) (sym t.left) h
  deed_from (Hears at) new printed not t = subst (After (Hears at)) (sym t.left) h

history_from : (s : MasterState) (entries : List Entry) (p end : Parts) (printed : List Line) (since : Since) → list_any (λ (entry : Entry). begins_life entry.deed) entries ≡ false → IfFrom s since p.master → History p entries printed end
    → IfFrom s (fold (entry_since end.told) since entries) end.master
history_from s [] p end printed since none up h = subst (λ (q : Parts). IfFrom s since q.master) (sym h.1) up
history_from s (entry ∷ entries) p end printed since none up h =
    let both = neither (begins_life entry.deed) (list_any (λ (e : Entry). begins_life e.deed) entries) none in
    let one = deed_from s end.told p entry.clocks since (sees_on p end (entry ∷ entries) printed h) up entry.deed h.0 h.1 both.0 h.3 in
    history_from s entries h.0 end h.2 (entry_since end.told since entry) both.1 one h.4

pub masters_go : MastersGoOn
masters_go kind cell rows terms before entries printed told here end s new from range h up quiet more ends none without =
    let began : IfFrom s (up_at 0) here.master = subst (λ (m : Option MasterState). IfFrom s (up_at 0) m) (sym up) (record { of_clients = refl; is = refl }) in
    let all = that_from s (since_in end.told entries) end.master new ends (history_from s entries here end told (up_at 0) none began more) in
    record {
      before = (since_in here.told before).steps;
      from = from;
      came = masters_have cell rows terms before printed here s range h up;
      quiet = quiet;
      of_clients = all.of_clients;
      without = without;
      is = all.is;
    }
