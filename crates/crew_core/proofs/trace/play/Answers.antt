use Rattle.std.proofs.Common.{◌≡◌, ◌∙◌, ◌+◌, ◌++◌, ◌∷◌, [], List, map, sym, ap, subst, take}
use Rattle.std.proofs.lemmas.List.{map-append, take_all, take_more}
use Rattle.crew_core.proofs.Played.{IsPlayed, headline, played-more, played-none}
use Rattle.crew_core.specs.Replies.{act_of, acts_of}
use Rattle.crew_core.specs.declared.reply.Reply.{Reply}
use Rattle.crew_core.specs.declared.step.Step.{Step}
use Rattle.crew_machine.specs.Crew.{CrewAct}
use Rattle.crew_board.specs.Boards.{shown_version}
use Rattle.crew_rules.specs.declared.settings.Settings.{Settings}
use Rattle.crew_core.proofs.trace.play.Goals as goal

pub loop-step-init : goal.loop-step-init
loop-step-init g c =
    let s = c.args.settings.now in
    subst (λ (rs : List Reply). IsPlayed s [] rs c.in_ok-machine.machine) (sym c.in_ok-replies.ensures.items) (played-none s c.in_ok-machine.machine c.in_ok-machine.ensures.settings c.in_ok-machine.ensures.starts)

pub loop-step-preserved : goal.loop-step-preserved
loop-step-preserved g c =
    let s = c.args.settings.now in
    let steps = c.args.steps.now in
    let i = c.loop-step.step-index in
    let step = c.step-item.result in
    let taken : take (i + 1) steps ≡ take i steps ++ step ∷ [] = take_more steps i step c.loop-step-test.true ∙ ap (λ (x : Step). take i steps ++ x ∷ []) (sym c.step-item.is) in
    let acts : acts_of (take (i + 1) steps) ≡ acts_of (take i steps) ++ act_of step ∷ [] = ap acts_of taken ∙ map-append act_of (take i steps) (step ∷ []) in
    let more = played-more s (acts_of (take i steps)) c.loop-step.replies.items c.loop-step.machine c.step.new.self (act_of step) c.in_ok-step.field-0 c.loop-step.invariant c.in_ok-step.ensures.ok in
    subst (λ (as' : List CrewAct). IsPlayed s as' c.push.new.self.items c.step.new.self) (sym acts)
    (subst (λ (rs : List Reply). IsPlayed s (acts_of (take i steps) ++ act_of step ∷ []) rs c.step.new.self) (sym c.in_ok-push.ensures.items) more)

pub returns : goal.returns
returns g c =
    let s = c.args.settings.now in
    let steps = c.args.steps.now in
    let all : take c.loop-step.step-index steps ≡ steps = take_all c.loop-step.step-index steps c.loop-step-test.false in
    let p : IsPlayed s (acts_of steps) c.loop-step.replies.items c.loop-step.machine = subst (λ (xs : List Step). IsPlayed s (acts_of xs) c.loop-step.replies.items c.loop-step.machine) all c.loop-step.invariant in
    record {
      answers = p.answers;
      state = p.state;
      run = p.run;
      replies = p.told;
      published = subst (λ (z : Settings). map (shown_version z) p.state.published ≡ c.loop-step.machine.published) p.settings p.shows.published ∙ sym c.into_published.ensures;
      headline = headline s c.requires (acts_of steps) p.answers p.state p.run;
    }
