use Rattle.std.proofs.Common.{◌++◌, ◌∷◌, [], refl, sym, ap, subst, ◌∙◌, append_assoc, append-nil}
use Rattle.walrus_text.specs.Steps.Bytes.{HasReadBytes}
use Rattle.walrus_text.proofs.line_reader.LineReader.push_bytes.Goals as goal

pub loop-line-init : goal.loop-line-init
loop-line-init c = ([], refl, λ bytes h. subst (HasReadBytes c.args.self.now) (sym (append-nil bytes)) h)

pub loop-line-preserved : goal.loop-line-preserved
loop-line-preserved c =
    let taken = c.loop-line.invariant.0 in
    let line = c.in-Some.line.now ++ 10 ∷ [] in (
      taken ++ line,
      c.loop-line.invariant.1
          ∙ (ap (λ l. taken ++ l) (c.in-Some.ensures.found
          ∙ sym (append_assoc c.in-Some.line.now (10 ∷ []) c.in-Some.after.now))
          ∙ sym (append_assoc taken line c.in-Some.after.now)),
      λ bytes h.
          subst (HasReadBytes c.push_line.new.self) (append_assoc bytes taken line)
          (c.in_ok-push_line.ensures (bytes ++ taken) (c.loop-line.invariant.2 bytes h)),
    )

pub returns : goal.returns
returns c = λ bytes h.
    let taken = c.loop-line.invariant.0 in
    subst (HasReadBytes c.push_part.new.self) (append_assoc bytes taken c.loop-line.rest.now
    ∙ ap (λ l. bytes ++ l) (sym c.loop-line.invariant.1))
    (c.in_ok-push_part.ensures (bytes ++ taken) (c.loop-line.invariant.2 bytes h))
