mod ConstExprLemmas

-- lemmas
