pub mod ConstExpr
