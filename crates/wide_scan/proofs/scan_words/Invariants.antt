-- What the loop of `scan_words` keeps.
use Rattle.wide_scan.proofs.Runs.{WideGoing}
use Rattle.wide_scan.proofs.scan_words.Given as goal

abbrev pub invariant-loop-c : goal.invariant-loop-c
invariant-loop-c l = WideGoing l.table l.m l.text l.initial.ends l.initial.d l.base l.ends l.d l.at l.n l.c-index
