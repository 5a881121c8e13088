use Rattle.std.proofs.Common.{◌≡◌, ◌<◌, ◌-◌, length, take, drop, ap, ◌∙◌, arith}
use Rattle.std.proofs.lemmas.List.{take_rest}
use Rattle.walrus_text.proofs.Lexing.FirstWord.{words_from_word, no_words, word, spaces}
use Rattle.walrus_text.proofs.words.next_word.Goals as goal

pub returns-then-is_empty-clause-none : goal.returns-then-is_empty-clause-none
returns-then-is_empty-clause-none c =
    let line = c.args.line.now in
    let rest = take (length line - c.spaces_len.result) (drop c.spaces_len.result line) in
    let cut : rest ≡ drop (spaces line) line = take_rest line c.spaces_len.result
    ∙ ap (λ n. drop n line) c.spaces_len.ensures.value in
    let none : word rest ≡ 0 = grind arith in
    no_words line rest cut none

pub returns-clause-found : goal.returns-clause-found
returns-clause-found c =
    let line = c.args.line.now in
    let rest = take (length line - c.spaces_len.result) (drop c.spaces_len.result line) in
    let first = c.split_at.result.0.now in
    let others = c.split_at.result.1.now in
    let cut : rest ≡ drop (spaces line) line = take_rest line c.spaces_len.result
    ∙ ap (λ n. drop n line) c.spaces_len.ensures.value in
    let front : first ≡ take (word rest) rest = c.split_at.ensures.front
    ∙ ap (λ n. take n rest) c.len_before.ensures.value in
    let back : others ≡ drop (word rest) rest = c.split_at.ensures.back
    ∙ ap (λ n. drop n rest) c.len_before.ensures.value in
    let some : 0 < length first = grind arith in
    words_from_word line rest first others cut front back some
