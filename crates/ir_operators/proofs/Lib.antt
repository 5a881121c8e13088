mod HexText
